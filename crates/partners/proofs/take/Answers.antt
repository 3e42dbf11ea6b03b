use Rattle.partners.proofs.Chaining.{taking_in, taking_in_turn, taking_in_end}
use Rattle.partners.proofs.take.Goals as goal

pub loop-i-init : goal.loop-i-init
loop-i-init c = taking_in c.requires.3

pub loop-i-preserved : goal.loop-i-preserved
loop-i-preserved c = taking_in_turn c.requires.0 c.requires.1 c.requires.2 c.loop-i.invariant c.loop-i-test.true c.cell-x.ensures.0 c.cell-h.ensures.0 c.put_cell.ensures c.next_of.ensures.0 c.put_cell-in-loop-i.ensures

pub shape_of-heads : goal.shape_of-heads
shape_of-heads c = c.loop-i.invariant.taking.size

pub shape_of-links : goal.shape_of-links
shape_of-links c = c.loop-i.invariant.size

pub returns : goal.returns
returns c = taking_in_end c.loop-i.invariant c.loop-i-test.false
