use mathlib.Core.Path.{refl, ap, ◌∙◌}
use lib.ListN.{length}
use lib.Seq.{length-sets}
use Rattle.class_spots.proofs.Settling.{settling_all, settling_turn, settling_end}
use Rattle.class_slots.proofs.settle_slots.Goals as goal

pub loop-i-init : goal.loop-i-init
loop-i-init c = settling_all

pub loop-i-preserved : goal.loop-i-preserved
loop-i-preserved c =
    settling_turn c.loop-i.invariant c.loop-i-test.true refl c.word_inside-w.ensures.0 c.offset_of-offset.ensures c.put.ensures

pub shape_of-area : goal.shape_of-area
shape_of-area c = ap length (settling_end c.loop-i.invariant c.loop-i-test.false) ∙ simp length-sets

pub returns : goal.returns
returns c = settling_end c.loop-i.invariant c.loop-i-test.false
