use Rattle.covered_between.proofs.Stretching.{array_stretch, range_stretch}
use Rattle.classes_below.proofs.stretch_at.Goals as goal

pub returns-then-word_at-eq1 : goal.returns-then-word_at-eq1
returns-then-word_at-eq1 c =
    array_stretch c.args.src.now c.args.at c.word_at.ensures.0 c.requires.2 c.if-word_at-eq1.true c.word_at-then-word_at-eq1.ensures.0 c.word_at-then-word_at-eq1-2.ensures.0

pub returns : goal.returns
returns c =
    range_stretch c.args.src.now c.args.at c.word_at.ensures.0 c.requires.2 c.if-word_at-eq1.false c.word_at-2.ensures.0 c.word_at-3.ensures.0 c.word_at-4.ensures.0
