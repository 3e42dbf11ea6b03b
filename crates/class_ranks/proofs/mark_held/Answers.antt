use Rattle.ranked_maps.proofs.Marking.{marking_all, marking_inside, marking_next, marking_end}
use Rattle.class_ranks.proofs.mark_held.Goals as goal

pub loop-e-init : goal.loop-e-init
loop-e-init c = marking_all c.requires

pub bounds-t-list : goal.bounds-t-list
bounds-t-list c = marking_inside c.loop-e.invariant c.loop-e-test.true

pub loop-e-preserved : goal.loop-e-preserved
loop-e-preserved c = marking_next c.loop-e.invariant c.loop-e-test.true

pub shape_of-t : goal.shape_of-t
shape_of-t c = c.loop-e.invariant.marked.kept.size

pub returns : goal.returns
returns c = marking_end c.loop-e.invariant c.loop-e-test.false
