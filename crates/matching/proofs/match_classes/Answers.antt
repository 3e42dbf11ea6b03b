use Rattle.matching.proofs.Formats.{cover_sound, classes_null, classes_not, classes_at_lem}
use Rattle.matching.proofs.match_classes.Goals as goal

pub returns-then-how-eq0 : goal.returns-then-how-eq0
returns-then-how-eq0 c =
    classes_null c.args.chained c.args.src.now c.args.how c.args.slot c.args.string.now c.args.n c.args.place c.if-how-eq0.true

pub covers-requires : goal.covers-requires
covers-requires c =
    (cover_sound c.args.src.now c.requires.0 c.word_at.ensures.0, c.word_at-glyph.ensures.1)

pub returns-then-not-covers : goal.returns-then-not-covers
returns-then-not-covers c =
    classes_not c.args.chained c.args.src.now c.args.how c.args.slot c.args.string.now c.args.n c.args.place c.if-how-eq0.false c.requires.2 c.requires.4 c.word_at.ensures.0 c.word_at-glyph.ensures.0 c.covers.ensures c.if-not-covers.true-raw

pub class_of-class-requires : goal.class_of-class-requires
class_of-class-requires c =
    (c.requires.1.input c.requires.2, c.word_at-glyph.ensures.1)

pub returns : goal.returns
returns c =
    classes_at_lem c.args.chained c.args.src.now c.args.how c.args.slot c.args.string.now c.args.n c.args.place c.if-how-eq0.false c.requires.2 c.requires.4 c.word_at.ensures.0 c.word_at-glyph.ensures.0 c.covers.ensures c.if-not-covers.false-raw c.class_of-class.ensures.0 c.match_set.ensures
