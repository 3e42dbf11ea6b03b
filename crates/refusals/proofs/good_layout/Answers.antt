use mathlib.Core.Path.{refl}
use Rattle.meaning.specs.Subset.{good_packing}
use Rattle.refusals.proofs.good_layout.Goals as goal

pub returns : goal.returns
unfolding good_packing
returns c = refl
