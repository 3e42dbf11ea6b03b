use Rattle.job_parts.proofs.Parts.{before_says}
use Rattle.job_form.proofs.is_before.Goals as goal

pub returns : goal.returns
returns c =
    before_says c.args.file.now c.args.at c.long_at.ensures c.long_at-2.ensures
