use Rattle.class_stretches.proofs.Reading.{ended_none, ended_gap, ended_in}
use Rattle.class_stretches.proofs.range_stretch.Goals as goal

pub returns-then-n-i : goal.returns-then-n-i
returns-then-n-i c =
    ended_none c.requires.0 c.reach_range-i.ensures c.requires.3 c.if-n-i.true

pub returns-then-glyph-first : goal.returns-then-glyph-first
returns-then-glyph-first c =
    ended_gap c.requires.0 c.reach_range-i.ensures c.if-n-i.false c.word_inside-first.ensures.0 c.word_inside-first.ensures.1 c.if-glyph-first.true

pub returns : goal.returns
returns c =
    ended_in c.requires.0 c.reach_range-i.ensures c.if-n-i.false c.word_inside-first.ensures.0 c.if-glyph-first.false c.word_inside.ensures c.word_inside-2.ensures
