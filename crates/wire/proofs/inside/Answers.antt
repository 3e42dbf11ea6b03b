use mathlib.Core.Path.{refl}
use Rattle.meaning.specs.Words.{inside}
use Rattle.wire.proofs.inside.Goals as goal

pub returns : goal.returns
unfolding inside
returns c = refl
