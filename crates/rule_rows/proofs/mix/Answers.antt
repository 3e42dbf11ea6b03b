use Rattle.rule_rows.specs.Rows.{mix}
use mathlib.Core.Path.{refl}
use native.Mathlib.Omega.{arith}
use Rattle.rule_rows.proofs.mix.Goals as goal

pub returns : goal.returns
unfolding mix
returns c = (refl, omega arith)
