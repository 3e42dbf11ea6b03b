use Prim.Native.Nat.{◌-◌}
use native.Mathlib.Omega.{arith}
use Rattle.rules.proofs.Within.{below_all, below_next, below_past, below_end}
use Rattle.rules.proofs.indexes_below.Goals as goal

pub loop-i-init : goal.loop-i-init
loop-i-init c = below_all

pub returns-then-count-word_at : goal.returns-then-count-word_at
returns-then-count-word_at c =
    below_past c.loop-i.invariant c.loop-i-test.true c.word_at.ensures.0 c.if-count-word_at.true

pub loop-i-preserved : goal.loop-i-preserved
loop-i-preserved c =
    below_next c.loop-i.invariant c.loop-i-test.true c.word_at.ensures.0 (omega (arith, c.if-count-word_at.false))

pub returns : goal.returns
returns c = below_end c.loop-i.invariant c.loop-i-test.false
