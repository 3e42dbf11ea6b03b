use native.Mathlib.Omega.{arith}
use Rattle.meaning.specs.Job.{ascii}
use Rattle.report_lines.specs.Lengths.{line_near}
use Rattle.compare_file.proofs.Lines.{text_refused, text_listed}
use Rattle.compare_file.proofs.put_answer.Goals as goal

pub put_line-q-requires : goal.put_line-q-requires
unfolding ascii
put_line-q-requires c =
    omega (arith, line_near (ascii "answer ") c.args.number c.put_line-p.ensures)

pub returns-then-number-ne0 : goal.returns-then-number-ne0
unfolding ascii
returns-then-number-ne0 c =
    text_refused c.args.number c.args.len c.args.list.now c.put_line-p.ensures c.put_line-q.ensures c.if-number-ne0.true

pub put_lines-requires : goal.put_lines-requires
unfolding ascii
put_lines-requires c =
    (omega (arith, line_near (ascii "answer ") c.args.number c.put_line-p.ensures, line_near (ascii "length ") c.args.len c.put_line-q.ensures), c.requires)

pub returns : goal.returns
unfolding ascii
returns c =
    text_listed c.args.number c.args.len c.args.list.now c.put_line-p.ensures c.put_line-q.ensures c.if-number-ne0.false c.put_lines.ensures
