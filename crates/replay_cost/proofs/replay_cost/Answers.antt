use Rattle.tallies.specs.Counting.{replayed_of}
use Rattle.replay_cost.proofs.Depths.{list_good, cost_refused, cost_told}
use Rattle.replay_cost.proofs.replay_cost.Goals as goal

pub returns-then-r-ne0 : goal.returns-then-r-ne0
returns-then-r-ne0 c =
    cost_refused c.args.list.now c.args.buffer.now (replayed_of c.replay_all-r.result) c.replay_all-r.ensures c.if-r-ne0.true

pub list_steps-requires : goal.list_steps-requires
list_steps-requires c =
    list_good c.args.list.now c.args.buffer.now (replayed_of c.replay_all-r.result) c.replay_all-r.ensures c.if-r-ne0.false

pub returns : goal.returns
returns c =
    cost_told c.args.list.now c.args.buffer.now (replayed_of c.replay_all-r.result) c.replay_all-r.ensures c.if-r-ne0.false c.list_steps.ensures
