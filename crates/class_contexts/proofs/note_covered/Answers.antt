use Rattle.class_contexts.proofs.Entry.{few_glyphs, may_bound, notes_few, may_meet, notes_covered}
use Rattle.class_contexts.proofs.note_covered.Goals as goal

pub returns-then-m-eq0 : goal.returns-then-m-eq0
returns-then-m-eq0 c = few_glyphs c.requires c.lay_glyphs-m.ensures c.if-m-eq0.true

pub most-requires : goal.most-requires
most-requires c = may_bound c.requires c.lay_glyphs-m.ensures c.notes_at-at.ensures c.word_at-cover.ensures.0

pub returns-then-t-at : goal.returns-then-t-at
returns-then-t-at c = notes_few c.requires c.lay_glyphs-m.ensures c.notes_at-at.ensures c.word_at-cover.ensures.0 c.most.ensures c.if-t-at.true

pub meet-len-requires : goal.meet-len-requires
meet-len-requires c = may_meet c.requires c.lay_glyphs-m.ensures c.notes_at-at.ensures c.word_at-cover.ensures.0 c.most.ensures c.if-m-eq0.false c.if-t-at.false

pub returns : goal.returns
returns c = notes_covered c.requires c.lay_glyphs-m.ensures c.notes_at-at.ensures c.word_at-cover.ensures.0 c.meet-len.ensures
