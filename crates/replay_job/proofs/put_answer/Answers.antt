use native.Mathlib.Omega.{arith}
use Rattle.meaning.specs.Job.{ascii}
use Rattle.tallies.specs.Counting.{replayed_of}
use Rattle.report_lines.specs.Lengths.{line_near}
use Rattle.replay_job.proofs.Lines.{lines_whole}
use Rattle.replay_job.proofs.put_answer.Goals as goal

pub put_line-b-requires : goal.put_line-b-requires
unfolding ascii
put_line-b-requires c =
    omega (arith, line_near (ascii "answer ") c.args.r.number c.put_line-a.ensures)

pub put_line-c-requires : goal.put_line-c-requires
unfolding ascii
put_line-c-requires c =
    omega (arith, line_near (ascii "answer ") c.args.r.number c.put_line-a.ensures, line_near (ascii "place ") c.args.r.place c.put_line-b.ensures)

pub put_line-d-requires : goal.put_line-d-requires
unfolding ascii
put_line-d-requires c =
    omega (arith, line_near (ascii "answer ") c.args.r.number c.put_line-a.ensures, line_near (ascii "place ") c.args.r.place c.put_line-b.ensures, line_near (ascii "runs ") c.args.r.tally.runs c.put_line-c.ensures)

pub put_line-requires : goal.put_line-requires
unfolding ascii
put_line-requires c =
    omega (arith, line_near (ascii "answer ") c.args.r.number c.put_line-a.ensures, line_near (ascii "place ") c.args.r.place c.put_line-b.ensures, line_near (ascii "runs ") c.args.r.tally.runs c.put_line-c.ensures, line_near (ascii "agreed ") c.args.r.tally.agreements c.put_line-d.ensures)

pub returns : goal.returns
unfolding ascii
returns c =
    lines_whole (replayed_of c.args.r) c.put_line-a.ensures c.put_line-b.ensures c.put_line-c.ensures c.put_line-d.ensures c.put_line.ensures
