use mathlib.Core.Path.{refl, ap, ◌∙◌}
use lib.ListN.{length}
use Rattle.handing.proofs.Moved.{lessening_all, lessening_turn, lessening_end}
use lib.Seq.{length-sets}
use Rattle.handing.proofs.lessen.Goals as goal

pub loop-i-init : goal.loop-i-init
loop-i-init c = lessening_all

pub loop-i-preserved : goal.loop-i-preserved
loop-i-preserved c =
    lessening_turn c.loop-i.invariant c.loop-i-test.true refl c.word_inside-w.ensures.0 c.put.ensures.1

pub shape_of-area : goal.shape_of-area
shape_of-area c = ap length (lessening_end c.loop-i.invariant c.loop-i-test.false) ∙ simp length-sets

pub returns : goal.returns
returns c = lessening_end c.loop-i.invariant c.loop-i-test.false
