use Rattle.range_meets.proofs.Lists.{listing_all, listing_one, listing_none, listing_end}
use Rattle.meet.proofs.meet_list.Goals as goal
use Rattle.meet.proofs.meet_list.Goals.{then-e-glyph, else-e-glyph}

pub loop-i-init : goal.loop-i-init
loop-i-init c = listing_all

pub loop-i-preserved : goal.loop-i-preserved
loop-i-preserved c =
    elim c.if-e-glyph.branch [
      | then-e-glyph w ↦ rw w.k-is (listing_one c.requires c.loop-i.invariant c.loop-i-test.true c.word_inside-glyph.ensures.0 c.entry-e.ensures.0 w.if-e-glyph.true)
      | else-e-glyph w ↦ rw w.k-is (listing_none c.requires c.loop-i.invariant c.loop-i-test.true c.word_inside-glyph.ensures.0 c.entry-e.ensures.0 _ w.if-e-glyph.false)
    ]

pub shape_of-t : goal.shape_of-t
shape_of-t c = c.loop-i.invariant.kept.size

pub returns : goal.returns
returns c = listing_end c.requires c.loop-i.invariant c.loop-i-test.false
