use Rattle.cover_differences.proofs.Rowing.{Rowing}
use Prim.Native.Nat.{◌-◌}
use Rattle.cover_differences.proofs.same_covers.Given as goal

abbrev pub invariant-loop-i : goal.invariant-loop-i
invariant-loop-i l = Rowing l.left l.right l.p l.n l.i
