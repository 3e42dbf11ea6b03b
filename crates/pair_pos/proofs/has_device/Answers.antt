use mathlib.Core.Path.{refl}
use Rattle.meaning.specs.Subset.{has_device}
use Rattle.pair_pos.proofs.has_device.Goals as goal

pub returns : goal.returns
unfolding has_device
returns c = refl
