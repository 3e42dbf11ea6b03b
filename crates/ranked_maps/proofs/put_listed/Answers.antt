use Rattle.ranked_maps.proofs.Ranks.{putting_all, putting_inside, putting_next, putting_end}
use Rattle.ranked_maps.proofs.put_listed.Goals as goal

pub loop-e-init : goal.loop-e-init
loop-e-init c = putting_all c.requires

pub bounds-t-list : goal.bounds-t-list
bounds-t-list c = putting_inside c.loop-e.invariant c.loop-e-test.true

pub put_bit-requires : goal.put_bit-requires
put_bit-requires c = c.loop-e.invariant.ready.near

pub loop-e-preserved : goal.loop-e-preserved
loop-e-preserved c = putting_next c.loop-e.invariant c.loop-e-test.true c.put_bit.ensures

pub shape_of-t : goal.shape_of-t
shape_of-t c = c.loop-e.invariant.put.kept.size

pub returns : goal.returns
returns c = putting_end c.loop-e.invariant c.loop-e-test.false
