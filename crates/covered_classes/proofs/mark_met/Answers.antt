use Rattle.covered_classes.proofs.Covering.{covering_all, covering_list, covering_inside, covering_next, covering_end}
use Rattle.covered_classes.proofs.mark_met.Goals as goal

pub loop-j-init : goal.loop-j-init
loop-j-init c = covering_all c.requires

pub bounds-t-noted : goal.bounds-t-noted
bounds-t-noted c = covering_inside c.loop-j.invariant c.loop-j-test.true

pub pass_below-k-requires : goal.pass_below-k-requires
pass_below-k-requires c = (covering_list c.loop-j.invariant, c.loop-j.invariant.near)

pub class_at-class-requires : goal.class_at-class-requires
class_at-class-requires c = covering_list c.loop-j.invariant

pub put_bit-requires : goal.put_bit-requires
put_bit-requires c = c.loop-j.invariant.able.near

pub loop-j-preserved : goal.loop-j-preserved
loop-j-preserved c = covering_next c.loop-j.invariant c.loop-j-test.true c.pass_below-k.ensures c.class_at-class.ensures c.put_bit.ensures

pub shape_of-t : goal.shape_of-t
shape_of-t c = c.loop-j.invariant.kept.size

pub returns : goal.returns
returns c = covering_end c.loop-j.invariant c.loop-j-test.false
