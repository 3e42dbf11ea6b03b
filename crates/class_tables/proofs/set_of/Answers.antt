use Rattle.class_tables.proofs.Numbering.{sound_at, place_null, place_past, place_there}
use Rattle.class_tables.proofs.set_of.Goals as goal

pub returns-then-at-eq0 : goal.returns-then-at-eq0
returns-then-at-eq0 c =
    place_null c.args.chained c.args.src.now c.args.glyph c.input_at-at.ensures c.if-at-eq0.true

pub class_of-class-requires : goal.class_of-class-requires
class_of-class-requires c =
    (sound_at c.input_at-at.ensures c.requires.0, c.requires.1)

pub returns-then-word_at-class : goal.returns-then-word_at-class
returns-then-word_at-class c =
    place_past c.args.chained c.args.src.now c.args.glyph c.input_at-at.ensures c.if-at-eq0.false c.class_of-class.ensures.0 c.count_at-count.ensures.0 c.word_at.ensures.0 c.if-word_at-class.true

pub returns : goal.returns
returns c =
    place_there c.args.chained c.args.src.now c.args.glyph c.input_at-at.ensures c.if-at-eq0.false c.class_of-class.ensures.0 c.count_at-count.ensures.0 c.word_at.ensures.0 c.if-word_at-class.false c.word_at-2.ensures
