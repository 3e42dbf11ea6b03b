use mathlib.Core.Path.{refl}
use Rattle.rule_says.proofs.Saying.{rule_part}
use Rattle.rule_says.proofs.parts_at.Goals as goal

pub returns-then-kind-eq3 : goal.returns-then-kind-eq3
returns-then-kind-eq3 c = rw c.if-kind-eq3.true c.ligature_parts.ensures

pub returns : goal.returns
returns c = rule_part c.if-kind-eq3.false refl c.rule_parts.ensures
