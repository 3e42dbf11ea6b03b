use mathlib.Core.Path.{refl}
use Rattle.meaning.specs.Subset.{limit}
use Rattle.meaning.specs.Job.{room}
use Rattle.label_job.proofs.lent.Goals as goal

pub returns : goal.returns
unfolding room limit
returns c = refl
