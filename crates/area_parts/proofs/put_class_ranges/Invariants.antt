use Rattle.area_parts.proofs.Classes.{Ranging}
use Rattle.area_parts.proofs.put_class_ranges.Given as goal

abbrev pub invariant-loop-i : goal.invariant-loop-i
invariant-loop-i l = Ranging l.t l.at l.n l.initial.area l.to l.area l.p l.first l.i
