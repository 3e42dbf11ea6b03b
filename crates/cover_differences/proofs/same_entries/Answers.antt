use Rattle.cover_differences.proofs.Rowing.{entering_all, entering_end, entering_first, entering_second, entering_turn}
use Prim.Native.Nat.{◌-◌}
use native.Mathlib.Omega.{arith}
use Rattle.cover_differences.proofs.same_entries.Goals as goal

pub loop-i-init : goal.loop-i-init
loop-i-init c = entering_all

pub returns-then-word_at : goal.returns-then-word_at
returns-then-word_at c =
    entering_first c.loop-i.invariant c.loop-i-test.true c.word_at.ensures.0 c.word_at-in-loop-i.ensures.0 c.if-word_at.true

pub returns-then-word_at-2 : goal.returns-then-word_at-2
returns-then-word_at-2 c =
    entering_second c.loop-i.invariant c.loop-i-test.true c.word_at.ensures.0 c.word_at-in-loop-i.ensures.0 (omega arith) c.word_at-in-loop-i-2.ensures.0 c.word_at-in-loop-i-3.ensures.0 c.if-word_at-2.true

pub loop-i-preserved : goal.loop-i-preserved
loop-i-preserved c =
    entering_turn c.loop-i.invariant c.loop-i-test.true c.word_at.ensures.0 c.word_at-in-loop-i.ensures.0 (omega arith) c.word_at-in-loop-i-2.ensures.0 c.word_at-in-loop-i-3.ensures.0 (omega arith)

pub returns : goal.returns
returns c = entering_end c.loop-i.invariant c.loop-i-test.false
