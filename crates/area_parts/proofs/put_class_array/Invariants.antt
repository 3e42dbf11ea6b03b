use Rattle.area_parts.proofs.Classes.{Spreading}
use Rattle.area_parts.proofs.put_class_array.Given as goal

abbrev pub invariant-loop-i : goal.invariant-loop-i
invariant-loop-i l = Spreading l.t l.at l.n l.initial.area l.to l.area l.p l.id l.i
