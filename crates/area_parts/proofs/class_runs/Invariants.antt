use Rattle.area_parts.proofs.Classes.{Counting}
use Rattle.area_parts.proofs.class_runs.Given as goal

abbrev pub invariant-loop-i : goal.invariant-loop-i
invariant-loop-i l = Counting l.t l.at l.n l.runs l.i
