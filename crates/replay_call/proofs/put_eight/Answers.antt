use Rattle.replay_call.proofs.Writing.{eight_written}
use Rattle.replay_call.proofs.put_eight.Goals as goal

pub returns : goal.returns
returns c =
    eight_written c.args.out.now c.args.at c.args.n c.put_entry-p.ensures c.put_entry.ensures
