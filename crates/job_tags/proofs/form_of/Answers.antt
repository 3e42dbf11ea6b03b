use Rattle.job_tags.proofs.Comparing.{form_says}
use Rattle.job_tags.proofs.form_of.Goals as goal

pub returns-then-has_runs : goal.returns-then-has_runs
returns-then-has_runs c = form_says c.args.file.now c.has_runs.ensures c.if-has_runs.true

pub returns : goal.returns
returns c = form_says c.args.file.now c.has_runs.ensures c.if-has_runs.false
