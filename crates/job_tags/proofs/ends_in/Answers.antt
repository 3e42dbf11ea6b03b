use Rattle.job_tags.proofs.Comparing.{tag_says}
use Rattle.job_tags.proofs.ends_in.Goals as goal

pub returns : goal.returns
returns c = tag_says c.args.file.now c.args.tag.now c.requires c.eq.ensures
