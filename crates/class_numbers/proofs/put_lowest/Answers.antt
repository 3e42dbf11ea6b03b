use Rattle.class_strays.proofs.Walking.{found_holds, finding_none, finding_turn, finding_end}
use Rattle.class_numbers.proofs.put_lowest.Goals as goal

pub loop-g-init : goal.loop-g-init
loop-g-init c = finding_none c.requires.1 c.clear.ensures

pub stretch_from-s-requires : goal.stretch_from-s-requires
stretch_from-s-requires c = (c.requires.0, c.loop-g.invariant.hint, c.loop-g-test.true)

pub loop-g-preserved : goal.loop-g-preserved
loop-g-preserved c =
    finding_turn c.loop-g.invariant (found_holds c.stretch_from-s.ensures) c.put_first.ensures

pub returns : goal.returns
returns c = finding_end c.clear.ensures c.loop-g.invariant c.loop-g-test.false
