use Rattle.class_stretches.proofs.Reading.{array_before, array_past, array_in}
use Rattle.class_stretches.proofs.array_stretch.Goals as goal

pub returns-then-glyph-first : goal.returns-then-glyph-first
returns-then-glyph-first c =
    array_before c.args.src.now c.args.at c.word_inside-first.ensures.0 c.if-glyph-first.true c.word_inside-first.ensures.1

pub returns-then-word_inside-i : goal.returns-then-word_inside-i
returns-then-word_inside-i c =
    array_past c.args.src.now c.args.at c.word_inside-first.ensures.0 c.word_inside.ensures.0 c.if-glyph-first.false c.requires.1 c.if-word_inside-i.true

pub returns : goal.returns
returns c =
    array_in c.args.src.now c.args.at c.word_inside-first.ensures.0 c.word_inside.ensures.0 c.if-glyph-first.false c.requires.1 c.if-word_inside-i.false c.word_inside-2.ensures
