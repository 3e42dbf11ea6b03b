use Rattle.area_parts.proofs.Cover.{listing_all, listing_turn, listing_end}
use Rattle.laws.specs.Written.{wrote_length}
use Rattle.area_parts.proofs.put_glyphs.Goals as goal

pub loop-i-init : goal.loop-i-init
loop-i-init c = listing_all

pub loop-i-preserved : goal.loop-i-preserved
loop-i-preserved c =
    listing_turn c.loop-i.invariant c.loop-i-test.true c.new_in.ensures.0 c.put-p.ensures

pub shape_of-area : goal.shape_of-area
shape_of-area c = wrote_length (listing_end c.loop-i.invariant c.loop-i-test.false)

pub returns : goal.returns
returns c = listing_end c.loop-i.invariant c.loop-i-test.false
