use Rattle.first_glyphs.proofs.Covers.{index_null, index_there}
use Rattle.first_glyphs.proofs.cover_index.Goals as goal

pub returns-then-at-eq0 : goal.returns-then-at-eq0
returns-then-at-eq0 c =
    index_null c.args.src.now c.word_at-at.ensures.0 c.args.g c.if-at-eq0.true

pub returns : goal.returns
returns c =
    index_there c.args.src.now c.word_at-at.ensures.0 c.args.g c.if-at-eq0.false c.index_of.ensures
