use Rattle.cover_parts.proofs.Rows.{rowing_all, rowing_null, rowing_asks, rowing_gone, rowing_turn, rowing_end}
use mathlib.Core.Path.{◌∙◌}
use Prim.Native.Nat.{◌-◌}
use Rattle.cover_rows.proofs.write_row.Goals as goal

pub loop-i-init : goal.loop-i-init
loop-i-init c = rowing_all c.requires

pub shape_of-t-then-cover-eq0 : goal.shape_of-t-then-cover-eq0
shape_of-t-then-cover-eq0 c = c.loop-i.invariant.cells.size

pub shape_of-area-then-cover-eq0 : goal.shape_of-area-then-cover-eq0
shape_of-area-then-cover-eq0 c = c.loop-i.invariant.same

pub shape_of-book-then-cover-eq0 : goal.shape_of-book-then-cover-eq0
shape_of-book-then-cover-eq0 c = c.loop-i.invariant.pages

pub returns-then-cover-eq0 : goal.returns-then-cover-eq0
returns-then-cover-eq0 c =
    rowing_null c.requires c.loop-i.invariant c.loop-i-test.true c.word_inside-cover.ensures.0 c.if-cover-eq0.true

pub write_slot-p-requires : goal.write_slot-p-requires
write_slot-p-requires c =
    rowing_asks c.requires c.loop-i.invariant c.loop-i-test.true c.word_inside-cover.ensures.0 c.if-cover-eq0.false c.word_inside-cover.ensures.1

pub shape_of-t-then-p-eq0 : goal.shape_of-t-then-p-eq0
shape_of-t-then-p-eq0 c = c.write_slot-p.ensures.cells.size ∙ c.loop-i.invariant.cells.size

pub shape_of-area-then-p-eq0 : goal.shape_of-area-then-p-eq0
shape_of-area-then-p-eq0 c = c.write_slot-p.ensures.same ∙ c.loop-i.invariant.same

pub shape_of-book-then-p-eq0 : goal.shape_of-book-then-p-eq0
shape_of-book-then-p-eq0 c = c.write_slot-p.ensures.pages ∙ c.loop-i.invariant.pages

pub returns-then-p-eq0 : goal.returns-then-p-eq0
returns-then-p-eq0 c =
    rowing_gone c.requires c.loop-i.invariant c.loop-i-test.true c.word_inside-cover.ensures.0 c.if-cover-eq0.false c.write_slot-p.ensures c.if-p-eq0.true

pub loop-i-preserved : goal.loop-i-preserved
loop-i-preserved c =
    rowing_turn c.requires c.loop-i.invariant c.loop-i-test.true c.word_inside-cover.ensures.0 c.if-cover-eq0.false c.write_slot-p.ensures c.if-p-eq0.false

pub shape_of-t : goal.shape_of-t
shape_of-t c = c.loop-i.invariant.cells.size

pub shape_of-area : goal.shape_of-area
shape_of-area c = c.loop-i.invariant.same

pub shape_of-book : goal.shape_of-book
shape_of-book c = c.loop-i.invariant.pages

pub returns : goal.returns
returns c = rowing_end c.requires c.loop-i.invariant c.loop-i-test.false
