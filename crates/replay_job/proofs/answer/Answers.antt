use Rattle.tallies.specs.Counting.{replayed_of}
use Rattle.replay_job.proofs.Lines.{answered, printed_near}
use Rattle.replay_job.proofs.answer.Goals as goal

pub put_cost-requires : goal.put_cost-requires
put_cost-requires c =
    printed_near (replayed_of c.replay_file.result) c.put_answer-at.ensures

pub returns : goal.returns
returns c =
    answered c.args.file.now c.requires c.replay_file.ensures c.put_answer-at.ensures c.put_cost.ensures
