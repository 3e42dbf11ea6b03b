use Prim.Native.Nat.{◌-◌}
use Rattle.class_strays.proofs.Walking.{Finding}
use Rattle.class_numbers.proofs.put_lowest.Given as goal

abbrev pub invariant-loop-g : goal.invariant-loop-g
invariant-loop-g l = Finding l.src l.at l.initial.t l.t l.base l.next l.g

abbrev pub decreases-loop-g : goal.decreases-loop-g
decreases-loop-g l = 65536 - l.g
