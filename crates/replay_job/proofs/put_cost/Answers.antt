use Rattle.meaning.specs.Job.{ascii}
use Rattle.faults.specs.Reached.{refused, passed}
use Rattle.replay_job.proofs.Files.{asked_good}
use Rattle.replay_job.proofs.Lines.{cost_none, cost_put}
use Rattle.replay_job.proofs.put_cost.Goals as goal

pub returns-then-not-asks_cost : goal.returns-then-not-asks_cost
returns-then-not-asks_cost c =
    cost_none c.args.file.now (refused c.asks_cost.ensures c.if-not-asks_cost.true-raw)

pub file_steps-requires : goal.file_steps-requires
file_steps-requires c =
    asked_good c.args.file.now (passed c.asks_cost.ensures c.if-not-asks_cost.false-raw)

pub returns : goal.returns
unfolding ascii
returns c =
    cost_put c.args.file.now (passed c.asks_cost.ensures c.if-not-asks_cost.false-raw) c.file_steps.ensures c.put_line.ensures
