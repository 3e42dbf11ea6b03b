use Rattle.replay_call.proofs.Writing.{tally_written}
use Rattle.replay_call.proofs.put_tally.Goals as goal

pub returns : goal.returns
returns c =
    tally_written c.args.out.now c.args.tally c.put_eight-p.ensures c.put_eight-q.ensures c.put_eight.ensures.1
