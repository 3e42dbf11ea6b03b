use mathlib.Core.List.{[]}
use native.Mathlib.Omega.{arith}
use Rattle.replay_call.proofs.Writing.{cost_given, cost_small, cost_small_by}
use Rattle.replay_call.proofs.Reach.{answer_small}
use Rattle.replay_call.proofs.gillcurtain_replay_cost.Goals as goal

pub one_number-requires : goal.one_number-requires
one_number-requires c =
    cost_small_by c.replay_cost-c.result c.replay_cost-c.ensures (cost_small c.args.list.now c.args.buffer.now (answer_small c.args.list.now c.args.buffer.now [] (λ i. omega (arith, c.type_inv.buffer i))))

pub returns : goal.returns
returns c =
    cost_given c.replay_cost-c.result c.replay_cost-c.ensures (cost_small c.args.list.now c.args.buffer.now (answer_small c.args.list.now c.args.buffer.now [] (λ i. omega (arith, c.type_inv.buffer i)))).1 c.one_number.ensures c.put_eight.ensures.1
