use Rattle.classes.proofs.Checking.{ascending_all, ascending_low, ascending_back, ascending_turn, ascending_end}
use Rattle.classes.proofs.ranges_ascend.Goals as goal

pub loop-i-init : goal.loop-i-init
loop-i-init c = ascending_all

pub returns-then-first-low : goal.returns-then-first-low
returns-then-first-low c =
    ascending_low c.loop-i.invariant c.loop-i-test.true c.word_at-first.ensures.0 c.word_at-last.ensures c.if-first-low.true

pub returns-then-last-first : goal.returns-then-last-first
returns-then-last-first c =
    ascending_back c.loop-i.invariant c.loop-i-test.true c.word_at-first.ensures.0 c.word_at-last.ensures c.if-first-low.false c.if-last-first.true

pub loop-i-preserved : goal.loop-i-preserved
loop-i-preserved c =
    ascending_turn c.loop-i.invariant c.loop-i-test.true c.word_at-first.ensures.0 c.word_at-last.ensures c.if-first-low.false c.if-last-first.false

pub returns : goal.returns
returns c = ascending_end c.loop-i.invariant c.loop-i-test.false
