use Prim.Native.Nat.{◌-◌}
use native.Mathlib.Omega.{arith}
use Rattle.noted_runs.proofs.Spans.{spanning_all, spanning_asks, spanning_turn, spanning_end}
use Rattle.meet_runs.proofs.meet_span.Goals as goal

pub loop-e-init : goal.loop-e-init
loop-e-init c = spanning_all c.requires

pub returns-then-last-word_inside : goal.returns-then-last-word_inside
returns-then-last-word_inside c =
    spanning_end c.requires c.loop-e.invariant (λ g. omega (arith, c.if-last-word_inside.true, c.word_inside.ensures.0))

pub meet_run-met-requires : goal.meet_run-met-requires
meet_run-met-requires c =
    spanning_asks c.requires c.loop-e.invariant c.loop-e-test.true (omega (arith, c.if-last-word_inside.false, c.word_inside.ensures.0))

pub loop-e-preserved : goal.loop-e-preserved
loop-e-preserved c =
    spanning_turn c.requires c.loop-e.invariant c.loop-e-test.true c.meet_run-met.ensures

pub returns : goal.returns
returns c =
    spanning_end c.requires c.loop-e.invariant (λ g. absurd (omega (arith, c.loop-e-test.false)))
