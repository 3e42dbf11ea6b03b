use Rattle.job_tags.proofs.Comparing.{pairs_tagged, runs_tagged}
use Rattle.job_tags.proofs.is_tagged.Goals as goal

pub returns-then-ends_in : goal.returns-then-ends_in
returns-then-ends_in c =
    pairs_tagged c.args.file.now c.ends_in.ensures c.if-ends_in.true

pub returns : goal.returns
returns c =
    runs_tagged c.args.file.now c.ends_in.ensures c.if-ends_in.false c.has_runs.ensures
