use Rattle.covered_between.proofs.Stretching.{array_count, range_count}
use mathlib.Core.Path.{◌∙◌}
use Rattle.classes_below.proofs.count.Goals as goal

pub returns-then-word_at-eq1 : goal.returns-then-word_at-eq1
returns-then-word_at-eq1 c =
    (c.word_at-then-word_at-eq1.ensures.0 ∙ array_count c.args.src.now c.args.at c.word_at.ensures.0 c.if-word_at-eq1.true, c.word_at-then-word_at-eq1.ensures.1)

pub returns : goal.returns
returns c =
    (c.word_at-2.ensures.0 ∙ range_count c.args.src.now c.args.at c.word_at.ensures.0 c.if-word_at-eq1.false, c.word_at-2.ensures.1)
