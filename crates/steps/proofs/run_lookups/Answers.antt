use Rattle.steps.proofs.Sweeping.{ordering_all, ordering_turn, ordering_deep, ordering_end}
use Rattle.steps.proofs.run_lookups.Goals as goal

pub loop-lookup-init : goal.loop-lookup-init
loop-lookup-init c = ordering_all c.args.list.now c.args.buffer.now

pub returns-in_err-sweep_lookup : goal.returns-in_err-sweep_lookup
returns-in_err-sweep_lookup c =
    ordering_deep c.loop-lookup.invariant c.loop-lookup-test.true c.sweep_lookup.new.string _ c.in_err-sweep_lookup.ensures c.from_residual.ensures.0

pub loop-lookup-preserved : goal.loop-lookup-preserved
loop-lookup-preserved c =
    ordering_turn c.loop-lookup.invariant c.loop-lookup-test.true c.sweep_lookup.new.string c.in_ok-sweep_lookup.ensures c.sweep_lookup.auto.string

pub returns : goal.returns
returns c = ordering_end c.loop-lookup.invariant c.loop-lookup-test.false
