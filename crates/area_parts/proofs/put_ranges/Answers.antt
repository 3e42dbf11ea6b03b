use Rattle.area_parts.proofs.Cover.{ranging_all, ranging_room, ranging_on, ranging_ends, ranging_end}
use Rattle.laws.specs.Written.{wrote_length}
use Rattle.area_parts.proofs.put_ranges.Goals as goal

pub loop-i-init : goal.loop-i-init
loop-i-init c = ranging_all c.requires.1

pub put_three-p-requires : goal.put_three-p-requires
put_three-p-requires c =
    ranging_room c.loop-i.invariant c.loop-i-test.true c.goes_on.ensures c.if-goes_on.false

pub loop-i-preserved : goal.loop-i-preserved
loop-i-preserved c =
    ranging_ends c.loop-i.invariant c.loop-i-test.true c.goes_on.ensures c.if-goes_on.false c.new_in-start.ensures.0 c.new_in-end.ensures.0 c.put_three-p.ensures

pub loop-i-preserved-then-goes_on : goal.loop-i-preserved-then-goes_on
loop-i-preserved-then-goes_on c =
    ranging_on c.loop-i.invariant c.loop-i-test.true c.goes_on.ensures c.if-goes_on.true

pub shape_of-area : goal.shape_of-area
shape_of-area c = wrote_length (ranging_end c.loop-i.invariant c.loop-i-test.false)

pub returns : goal.returns
returns c = ranging_end c.loop-i.invariant c.loop-i-test.false
