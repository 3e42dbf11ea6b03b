use native.Mathlib.Omega.{arith}
use Rattle.matching.proofs.Formats.{cover_sound, glyphs_sound, glyphs_null, glyphs_not, glyphs_at}
use Rattle.matching.proofs.match_glyphs.Goals as goal

pub returns-then-cover-eq0 : goal.returns-then-cover-eq0
returns-then-cover-eq0 c =
    glyphs_null c.args.chained c.args.src.now c.args.string.now c.args.n c.args.place c.word_at-cover.ensures.0 c.if-cover-eq0.true

pub index_of-requires : goal.index_of-requires
index_of-requires c =
    (cover_sound c.args.src.now c.requires.0 c.word_at-cover.ensures.0 c.if-cover-eq0.false, c.word_at.ensures.1)

pub returns-in_default : goal.returns-in_default
returns-in_default c =
    glyphs_not c.args.chained c.args.src.now c.args.string.now c.args.n c.args.place c.word_at-cover.ensures.0 c.if-cover-eq0.false c.requires.1 c.word_at.ensures.0 c.in_default.ensures

pub match_set-requires : goal.match_set-requires
match_set-requires c =
    (glyphs_sound c.args.src.now, omega arith, c.requires.1, c.requires.2)

pub returns : goal.returns
returns c =
    glyphs_at c.args.chained c.args.src.now c.args.string.now c.args.n c.args.place c.word_at-cover.ensures.0 c.if-cover-eq0.false c.requires.1 c.word_at.ensures.0 c.in-Some.ensures c.match_set.ensures
