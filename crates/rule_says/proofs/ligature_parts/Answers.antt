use mathlib.Core.Path.{refl}
use Rattle.rule_says.proofs.Saying.{ligature_part}
use Rattle.rule_says.proofs.ligature_parts.Goals as goal

pub returns : goal.returns
returns c = ligature_part c.args.src.now c.args.at c.requires c.word_at-count.ensures.0 c.word_at-count.ensures.1 c.saturating_sub.ensures refl
