use native.Mathlib.Omega.{arith}
use Rattle.cover_layouts.proofs.Cut.{cut_asks, cut_few, cut_short, cut_into}
use Rattle.covers.proofs.cut_context.Goals as goal

pub returns-then-t-notes : goal.returns-then-t-notes
returns-then-t-notes c = cut_few c.requires c.cover_parts-parts.ensures c.most_notes.ensures c.if-t-notes.true

pub overflow_add-parts : goal.overflow_add-parts
overflow_add-parts c = omega (arith, c.cover_parts-parts.ensures.records, c.well_formed)

pub returns-then-area-parts : goal.returns-then-area-parts
returns-then-area-parts c = cut_short c.requires c.cover_parts-parts.ensures c.most_notes.ensures c.if-area-parts.true

pub write_in-end-requires : goal.write_in-end-requires
write_in-end-requires c = cut_asks c.requires c.cover_parts-parts.ensures c.most_notes.ensures c.if-t-notes.false c.if-area-parts.false

pub returns : goal.returns
returns c = cut_into c.requires c.cover_parts-parts.ensures c.most_notes.ensures c.write_in-end.ensures c.settle.ensures
