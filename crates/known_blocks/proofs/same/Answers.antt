use Rattle.known_blocks.proofs.Comparing.{matching_all, matching_other, matching_turn, matching_end}
use Prim.Native.Nat.{◌-◌}
use Rattle.known_blocks.proofs.same.Goals as goal

pub loop-i-init : goal.loop-i-init
loop-i-init c = matching_all _ _ _ _

pub returns-then-word_at : goal.returns-then-word_at
returns-then-word_at c = matching_other _ _ _ _ _ c.loop-i.invariant c.loop-i-test.true c.word_at.ensures.0 c.word_at-in-loop-i.ensures.0 c.if-word_at.true

pub loop-i-preserved : goal.loop-i-preserved
loop-i-preserved c = matching_turn _ _ _ _ _ c.loop-i.invariant c.loop-i-test.true c.word_at.ensures.0 c.word_at-in-loop-i.ensures.0 c.if-word_at.false

pub returns : goal.returns
returns c = matching_end _ _ _ _ _ c.loop-i.invariant c.loop-i-test.false
