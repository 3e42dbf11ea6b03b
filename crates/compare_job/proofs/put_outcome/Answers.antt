use native.Mathlib.Omega.{arith}
use Rattle.report.proofs.Whole.{kept_length}
use Rattle.compare_job.proofs.Answering.{said_refused, said_listed}
use Rattle.compare_job.proofs.put_outcome.Goals as goal

pub returns-then-number-ne0 : goal.returns-then-number-ne0
returns-then-number-ne0 c =
    said_refused c.args.number c.args.len c.args.list.now c.if-number-ne0.true c.put_answer.ensures

pub put_answer-requires-2 : goal.put_answer-requires-2
put_answer-requires-2 c =
    omega (arith, kept_length c.requires c.if-number-ne0.false, c.requires.small, c.requires.within c.if-number-ne0.false)

pub returns : goal.returns
returns c =
    said_listed c.args.number c.args.len c.args.list.now c.put_answer-2.ensures
