use Prim.Native.Nat.{◌-◌}
use Rattle.map_runs.proofs.Runs.{rising_all, rising_turn, rising_faulty, rising_end, runs_broken}
use Rattle.map_runs.proofs.good_runs.Goals as goal

pub returns-then-m-ne0 : goal.returns-then-m-ne0
returns-then-m-ne0 c = runs_broken c.args.m.now c.if-m-ne0.true

pub loop-i-init : goal.loop-i-init
loop-i-init c = rising_all

pub returns-then-not-run_fits : goal.returns-then-not-run_fits
returns-then-not-run_fits c =
    rising_faulty c.loop-i.invariant c.loop-i-test.true c.word_inside-first.ensures.0 c.word_inside-becomes.ensures.0 c.word_inside-n.ensures.0 c.run_fits.ensures c.if-m-ne0.false c.if-not-run_fits.true

pub loop-i-preserved : goal.loop-i-preserved
loop-i-preserved c =
    rising_turn c.loop-i.invariant c.loop-i-test.true c.word_inside-first.ensures.0 c.word_inside-becomes.ensures.0 c.word_inside-n.ensures.0 c.run_fits.ensures c.if-not-run_fits.false

pub returns : goal.returns
returns c = rising_end c.loop-i.invariant c.loop-i-test.false c.if-m-ne0.false
