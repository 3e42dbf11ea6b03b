use Rattle.partners.proofs.Chaining.{linking_in, linking_in_turn, linking_in_end}
use native.Mathlib.Omega.{arith}
use Rattle.partners.proofs.link.Goals as goal

pub loop-j-init : goal.loop-j-init
loop-j-init c = linking_in c.requires.3

pub loop-j-preserved : goal.loop-j-preserved
loop-j-preserved c = linking_in_turn c.requires.2 c.requires.1 c.loop-j.invariant c.loop-j-test.true c.cell-x.ensures.0 c.cell.ensures.0 c.put_cell.ensures c.put_cell-in-loop-j.ensures

pub shape_of-heads : goal.shape_of-heads
shape_of-heads c = c.loop-j.invariant.linking.size

pub shape_of-links : goal.shape_of-links
shape_of-links c = c.loop-j.invariant.size

pub returns : goal.returns
returns c = linking_in_end c.loop-j.invariant (omega arith)
