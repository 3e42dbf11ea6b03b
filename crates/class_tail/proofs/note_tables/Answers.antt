use borrow.Author.Tests.{not-true, not-false}
use Rattle.class_tail.proofs.Laying.{plain_asked, plain_noted, back_asked, back_over, input_asked, input_over, ahead_asked, ahead_noted}
use mathlib.Core.Path.{◌∙◌}
use Rattle.class_tail.proofs.note_tables.Goals as goal

pub write_made-requires : goal.write_made-requires
write_made-requires c = plain_asked c.requires.0 c.requires.1 c.begin.ensures

pub returns-then-not-tail : goal.returns-then-not-tail
returns-then-not-tail c = plain_noted c.requires.0 c.requires.1 c.begin.ensures c.write_made.ensures.0 c.args.tail.chained (not-true _ c.if-not-tail.true)

pub write_made-q-requires : goal.write_made-q-requires
write_made-q-requires c = back_asked c.requires.0 c.requires.1 c.begin.ensures

pub returns-then-area-q : goal.returns-then-area-q
returns-then-area-q c = back_over c.requires.0 c.requires.1 c.begin.ensures c.write_made-q.ensures.0 c.if-area-q.true c.args.tail.chained (not-false _ c.if-not-tail.false)

pub write_made-r-requires : goal.write_made-r-requires
write_made-r-requires c = input_asked c.requires.0 c.requires.1 c.begin.ensures c.write_made-q.ensures.0 c.if-area-q.false c.write_made-q.ensures.1

pub returns-then-area-r : goal.returns-then-area-r
returns-then-area-r c = input_over c.requires.0 c.requires.1 c.begin.ensures c.write_made-q.ensures.0 c.if-area-q.false c.write_made-r.ensures.0 c.if-area-r.true c.args.tail.chained (not-false _ c.if-not-tail.false)

pub write_made-requires-2 : goal.write_made-requires-2
write_made-requires-2 c = ahead_asked c.requires.0 c.requires.1 c.begin.ensures c.write_made-q.ensures.0 c.if-area-q.false c.write_made-r.ensures.0 c.if-area-r.false c.write_made-q.ensures.1 c.write_made-r.ensures.1

pub shape_of-book : goal.shape_of-book
shape_of-book c = c.book-4-1.given ∙ c.book-3-1.given ∙ c.book-2-1.given ∙ c.book-1.given

pub returns : goal.returns
returns c = ahead_noted c.requires.0 c.requires.1 c.begin.ensures c.write_made-q.ensures.0 c.if-area-q.false c.write_made-r.ensures.0 c.if-area-r.false c.write_made-2.ensures.0 c.args.tail.chained (not-false _ c.if-not-tail.false)
