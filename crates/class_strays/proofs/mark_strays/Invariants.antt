use Prim.Native.Nat.{◌-◌}
use Rattle.class_strays.proofs.Walking.{Straying}
use Rattle.class_strays.proofs.mark_strays.Given as goal

abbrev pub invariant-loop-g : goal.invariant-loop-g
invariant-loop-g l = Straying l.left l.at l.right l.to l.initial.t l.t l.base l.l l.r l.g

abbrev pub decreases-loop-g : goal.decreases-loop-g
decreases-loop-g l = 65536 - l.g
