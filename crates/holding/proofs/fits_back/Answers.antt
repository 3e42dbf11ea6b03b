use Rattle.holding.proofs.Holding.{away_all, away_short, away_not, away_turn, away_end}
use Rattle.holding.proofs.fits_back.Goals as goal

pub loop-i-init : goal.loop-i-init
loop-i-init c = away_all

pub returns-then-place-i : goal.returns-then-place-i
returns-then-place-i c = away_short c.loop-i.invariant c.loop-i-test.true c.if-place-i.true

pub returns-then-not-holds : goal.returns-then-not-holds
returns-then-not-holds c =
    away_not c.loop-i.invariant c.loop-i-test.true c.if-place-i.false c.requires.1 c.word_at-number.ensures.0 c.word_at-glyph.ensures.0 c.holds.ensures c.if-not-holds.true-raw

pub loop-i-preserved : goal.loop-i-preserved
loop-i-preserved c =
    away_turn c.loop-i.invariant c.loop-i-test.true c.if-place-i.false c.requires.1 c.word_at-number.ensures.0 c.word_at-glyph.ensures.0 c.holds.ensures c.if-not-holds.false-raw

pub returns : goal.returns
returns c = away_end c.loop-i.invariant c.loop-i-test.false
