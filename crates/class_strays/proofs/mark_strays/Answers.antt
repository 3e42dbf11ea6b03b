use native.Mathlib.Omega.{arith}
use Rattle.class_strays.proofs.Walking.{found_holds, straying_none, straying_turn, straying_end}
use Rattle.class_strays.proofs.mark_strays.Goals as goal

pub loop-g-init : goal.loop-g-init
loop-g-init c =
    straying_none c.requires.2 c.requires.3 (found_holds c.stretch_from-l.ensures).0 (found_holds c.stretch_from-r.ensures).0

pub onward-l-requires : goal.onward-l-requires
onward-l-requires c = (c.requires.0, c.loop-g.invariant.lefts, c.loop-g-test.true)

pub onward-r-requires : goal.onward-r-requires
onward-r-requires c = (c.requires.1, c.loop-g.invariant.rights, c.loop-g-test.true)

pub compare_lowest-requires : goal.compare_lowest-requires
compare_lowest-requires c =
    (omega (arith, c.loop-g.invariant.room, c.loop-g.invariant.elsewhere.size), c.onward-l.ensures.0.small, c.onward-r.ensures.0.small)

pub loop-g-preserved : goal.loop-g-preserved
loop-g-preserved c =
    straying_turn c.loop-g.invariant c.loop-g-test.true c.onward-l.ensures c.onward-r.ensures c.compare_lowest.ensures c.min-g.ensures

pub shape_of-t : goal.shape_of-t
shape_of-t c = c.loop-g.invariant.elsewhere.size

pub returns : goal.returns
returns c = straying_end c.loop-g.invariant c.loop-g-test.false
