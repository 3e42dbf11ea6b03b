use Rattle.steps.proofs.Sweeping.{sweeping_all, sweeping_turn, sweeping_deep, sweeping_end}
use Rattle.steps.proofs.sweep_lookup.Goals as goal

pub loop-place-init : goal.loop-place-init
loop-place-init c = sweeping_all

pub returns-in_err-took : goal.returns-in_err-took
returns-in_err-took c =
    sweeping_deep c.loop-place.invariant c.loop-place-test.true c.lookup_step.new.string _ c.in_err-took.ensures c.from_residual.ensures.0

pub loop-place-preserved : goal.loop-place-preserved
loop-place-preserved c =
    sweeping_turn c.loop-place.invariant c.loop-place-test.true _ c.in_ok-took.ensures c.lookup_step.auto.string c.onward-place.ensures

pub returns : goal.returns
returns c = sweeping_end c.loop-place.invariant c.loop-place-test.false
