use Rattle.job_tags.proofs.Comparing.{runs_tag_lem}
use Rattle.job_tags.proofs.has_runs.Goals as goal

pub returns : goal.returns
returns c = runs_tag_lem c.args.file.now c.ends_in.ensures
