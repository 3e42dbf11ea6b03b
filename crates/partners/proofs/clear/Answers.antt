use Rattle.partners.proofs.Chaining.{clearing_none, clearing_turn, clearing_end}
use Rattle.partners.proofs.clear.Goals as goal

pub loop-i-init : goal.loop-i-init
loop-i-init c = clearing_none

pub loop-i-preserved : goal.loop-i-preserved
loop-i-preserved c = clearing_turn c.loop-i.invariant c.loop-i-test.true c.cell.ensures.0 c.put_cell.ensures

pub shape_of-heads : goal.shape_of-heads
shape_of-heads c = c.loop-i.invariant.size

pub returns : goal.returns
returns c = clearing_end c.loop-i.invariant c.loop-i-test.false
