use mathlib.Core.Path.{sym, ◌∙◌}
use Prim.Native.Nat.{◌-◌, ◌≤◌}
use native.Mathlib.Omega.{arith}
use Rattle.coverage.proofs.Checking.{fits_order, checking_all, checking_turn, checking_faulty, checking_end}
use Rattle.coverage.proofs.ranges_sound.Goals as goal
use Rattle.coverage.proofs.ranges_sound.Goals.{Else-not-range_fits}

-- the range that was read starts from low on, and at most at its end
order : (c : Else-not-range_fits) → (c.loop-i.low ≤ c.word_at-first.result) × (c.word_at-first.result ≤ c.word_at-last.result)
order c = fits_order _ _ _ _ (sym c.range_fits.ensures ∙ c.if-not-range_fits.false)

pub loop-i-init : goal.loop-i-init
loop-i-init c = checking_all

pub returns-then-not-range_fits : goal.returns-then-not-range_fits
returns-then-not-range_fits c =
    checking_faulty c.loop-i.invariant c.loop-i-test.true c.word_at-first.ensures.0 c.word_at-last.ensures.0 c.word_at.ensures.0 c.range_fits.ensures c.if-not-range_fits.true

pub overflow_sub-before : goal.overflow_sub-before
overflow_sub-before c = omega (arith, order (goal.at.overflow_sub-before c).Else-not-range_fits)

pub overflow_add-before-in-loop-i : goal.overflow_add-before-in-loop-i
overflow_add-before-in-loop-i c = omega (arith, order (goal.at.overflow_add-before-in-loop-i c).Else-not-range_fits)

pub loop-i-preserved : goal.loop-i-preserved
loop-i-preserved c =
    checking_turn c.loop-i.invariant c.loop-i-test.true c.word_at-first.ensures.0 c.word_at-last.ensures.0 c.word_at.ensures.0 c.range_fits.ensures c.word_at-last.ensures.1 c.if-not-range_fits.false

pub returns : goal.returns
returns c = checking_end c.loop-i.invariant c.loop-i-test.false
