use Rattle.rule_says.specs.Said.{base_of}
use mathlib.Core.Path.{refl}
use Rattle.rule_says.proofs.records_of.Goals as goal

pub returns : goal.returns
unfolding base_of
returns c = refl
