use Rattle.known_blocks.proofs.Comparing.{Matching}
use Prim.Native.Nat.{◌-◌}
use Rattle.known_blocks.proofs.same.Given as goal

abbrev pub invariant-loop-i : goal.invariant-loop-i
invariant-loop-i l = Matching l.area l.a l.b l.n l.i
