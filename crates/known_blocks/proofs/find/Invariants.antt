use Rattle.known_blocks.proofs.Seeking.{Seeking}
use Prim.Native.Nat.{◌-◌}
use Rattle.known_blocks.proofs.find.Given as goal

abbrev pub invariant-loop-i : goal.invariant-loop-i
invariant-loop-i l = Seeking l.area l.book l.first l.p l.n l.i
