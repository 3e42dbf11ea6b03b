use Rattle.report_lines.proofs.Writing.{Copying}
use Rattle.report.proofs.put_text.Given as goal

abbrev pub invariant-loop-b : goal.invariant-loop-b
invariant-loop-b l = Copying l.s l.initial.text l.at l.text l.p l.b-index
