use Rattle.report_lines.proofs.Lines.{Lining}
use Rattle.report_lines.proofs.put_lines.Given as goal

abbrev pub invariant-loop-b : goal.invariant-loop-b
invariant-loop-b l = Lining l.bytes l.initial.text l.at l.text l.p l.room l.b-index
