use Rattle.replaying.specs.Listed.{lookups_of}
use Rattle.runs.proofs.Verdicts.{run_deep, run_done}
use Rattle.runs.proofs.replay_run.Goals as goal

pub returns-in_err-run_lookups : goal.returns-in_err-run_lookups
returns-in_err-run_lookups c =
    run_deep (lookups_of c.args.list.now c.args.buffer.now) c.args.trace.now c.args.at c.word_at-n.ensures.0 c.copy_words.new.out c.copy_words.ensures c.run_lookups.new.string _ c.in_err-run_lookups.ensures c.from_residual.ensures.0

pub returns : goal.returns
returns c =
    run_done (lookups_of c.args.list.now c.args.buffer.now) c.args.trace.now c.args.at c.word_at-n.ensures.0 c.copy_words.new.out c.copy_words.ensures c.run_lookups.new.string c.in_ok-run_lookups.ensures c.same_words.ensures
