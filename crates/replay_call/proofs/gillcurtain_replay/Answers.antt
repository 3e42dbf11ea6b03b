use native.Mathlib.Omega.{arith}
use Rattle.replay_call.proofs.Writing.{given, small_by}
use Rattle.replay_call.proofs.Reach.{answer_small}
use Rattle.replay_call.proofs.gillcurtain_replay.Goals as goal

pub one_number-requires : goal.one_number-requires
one_number-requires c =
    small_by c.replay_all-r.result c.replay_all-r.ensures (answer_small c.args.list.now c.args.buffer.now c.args.trace.now (λ i. omega (arith, c.type_inv.buffer i)))

pub returns : goal.returns
returns c =
    given c.replay_all-r.result c.replay_all-r.ensures (answer_small c.args.list.now c.args.buffer.now c.args.trace.now (λ i. omega (arith, c.type_inv.buffer i))).1 c.one_number.ensures c.put_tally.ensures
