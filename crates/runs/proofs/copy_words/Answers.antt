use Rattle.runs.proofs.Copying.{copied_none, copied_turn, copied_all}
use Rattle.runs.proofs.copy_words.Goals as goal

pub loop-i-init : goal.loop-i-init
loop-i-init c = copied_none

pub loop-i-preserved : goal.loop-i-preserved
loop-i-preserved c =
    copied_turn c.loop-i.invariant c.loop-i-test.true c.requires.1.fits c.word_at.ensures c.put.ensures.1

pub shape_of-out : goal.shape_of-out
shape_of-out c = c.loop-i.invariant.long

pub returns : goal.returns
returns c = copied_all c.loop-i.invariant c.loop-i-test.false
