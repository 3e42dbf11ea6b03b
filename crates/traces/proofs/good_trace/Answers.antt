use mathlib.Core.Path.{sym, ◌∙◌}
use Prim.Native.Nat.{◌-◌}
use native.Mathlib.Omega.{arith}
use mathlib.Core.Path.{sym, ◌∙◌}
use Rattle.traces.proofs.Tracing.{tracing_all, tracing_bad, tracing_turn, tracing_end, good_whole}
use Rattle.traces.proofs.good_trace.Goals as goal

pub loop-at-init : goal.loop-at-init
loop-at-init c = tracing_all

pub returns-then-not-good_run : goal.returns-then-not-good_run
returns-then-not-good_run c =
    tracing_bad c.loop-at.invariant c.loop-at-test.true c.good_run.ensures c.if-not-good_run.true-raw

pub overflow_add-at-in-loop-at : goal.overflow_add-at-in-loop-at
overflow_add-at-in-loop-at c =
    let w = good_whole c.args.trace.now c.loop-at.at (sym c.good_run.ensures ∙ c.if-not-good_run.false) in
    omega (arith, w.inside, c.word_at.ensures.0)

pub loop-at-preserved : goal.loop-at-preserved
loop-at-preserved c =
    tracing_turn c.loop-at.invariant c.loop-at-test.true c.good_run.ensures c.if-not-good_run.false-raw c.word_at.ensures.0

pub returns : goal.returns
returns c = tracing_end c.loop-at.invariant c.loop-at-test.false
