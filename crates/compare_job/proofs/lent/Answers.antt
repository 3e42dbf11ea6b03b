use mathlib.Core.Path.{refl}
use Rattle.compare_job.specs.Program.{room}
use Rattle.compare_job.proofs.lent.Goals as goal

pub returns : goal.returns
unfolding room
returns c = refl
