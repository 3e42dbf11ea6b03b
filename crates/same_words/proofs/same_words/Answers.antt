use Rattle.same_words.proofs.Comparing.{alike_all, alike_not, alike_turn, alike_end}
use Rattle.same_words.proofs.same_words.Goals as goal

pub loop-i-init : goal.loop-i-init
loop-i-init c = alike_all

pub returns-then-word_at : goal.returns-then-word_at
returns-then-word_at c =
    alike_not c.loop-i.invariant c.loop-i-test.true c.word_at.ensures.0 c.word_at-in-loop-i.ensures.0 c.if-word_at.true

pub loop-i-preserved : goal.loop-i-preserved
loop-i-preserved c =
    alike_turn c.loop-i.invariant c.loop-i-test.true c.word_at.ensures.0 c.word_at-in-loop-i.ensures.0 c.if-word_at.false

pub returns : goal.returns
returns c = alike_end c.loop-i.invariant c.loop-i-test.false
