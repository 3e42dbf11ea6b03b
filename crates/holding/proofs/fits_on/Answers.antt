use Rattle.holding.proofs.Holding.{onward_all, onward_short, onward_not, onward_turn, onward_end}
use Rattle.holding.proofs.fits_on.Goals as goal

pub loop-i-init : goal.loop-i-init
loop-i-init c = onward_all

pub returns-then-n-place : goal.returns-then-n-place
returns-then-n-place c = onward_short c.loop-i.invariant c.loop-i-test.true c.if-n-place.true

pub returns-then-not-holds : goal.returns-then-not-holds
returns-then-not-holds c =
    onward_not c.loop-i.invariant c.loop-i-test.true c.if-n-place.false c.word_at-number.ensures.0 c.word_at-glyph.ensures.0 c.holds.ensures c.if-not-holds.true-raw

pub loop-i-preserved : goal.loop-i-preserved
loop-i-preserved c =
    onward_turn c.loop-i.invariant c.loop-i-test.true c.if-n-place.false c.word_at-number.ensures.0 c.word_at-glyph.ensures.0 c.holds.ensures c.if-not-holds.false-raw

pub returns : goal.returns
returns c = onward_end c.loop-i.invariant c.loop-i-test.false
