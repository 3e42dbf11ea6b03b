use mathlib.Core.Path.{refl}
use Rattle.meaning.specs.Subset.{limit}
use Rattle.refusals.proofs.too_long.Goals as goal

pub returns : goal.returns
unfolding limit
returns c = refl
