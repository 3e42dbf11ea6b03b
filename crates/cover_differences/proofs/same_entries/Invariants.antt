use Rattle.cover_differences.proofs.Rowing.{Entering}
use Prim.Native.Nat.{◌-◌}
use Rattle.cover_differences.proofs.same_entries.Given as goal

abbrev pub invariant-loop-i : goal.invariant-loop-i
invariant-loop-i l = Entering l.left l.right l.p l.n l.i
