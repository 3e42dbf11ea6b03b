use mathlib.Core.Path.{refl, ap, ◌∙◌}
use lib.ListN.{length}
use Rattle.handing.proofs.Moved.{copying_all, copying_turn, copying_end}
use lib.Seq.{length-sets}
use Rattle.handing.proofs.copy.Goals as goal

pub loop-i-init : goal.loop-i-init
loop-i-init c = copying_all

pub loop-i-preserved : goal.loop-i-preserved
loop-i-preserved c =
    copying_turn c.loop-i.invariant c.loop-i-test.true refl refl

pub shape_of-out : goal.shape_of-out
shape_of-out c = ap length (copying_end c.loop-i.invariant c.loop-i-test.false) ∙ simp length-sets

pub returns : goal.returns
returns c = copying_end c.loop-i.invariant c.loop-i-test.false
