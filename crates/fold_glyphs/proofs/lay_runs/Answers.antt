use Prim.Native.Nat.{◌-◌}
use native.Mathlib.Omega.{arith}
use Rattle.cell_maps.proofs.RunLaws.{good_run, runs_none, runs_inside, runs_next, runs_all, runs_no_room}
use Rattle.fold_glyphs.proofs.lay_runs.Goals as goal

pub returns-then-n-gt-RUNS : goal.returns-then-n-gt-RUNS
returns-then-n-gt-RUNS c = c.spread_runs.ensures

pub returns-then-t-at : goal.returns-then-t-at
returns-then-t-at c = runs_no_room (omega (arith, c.if-t-at.true, c.if-n-gt-RUNS.false))

pub loop-k-init : goal.loop-k-init
loop-k-init c = runs_none

pub lay_run-requires : goal.lay_run-requires
lay_run-requires c =
    (omega (arith, c.loop-k-test.true), (good_run c.args.list.now c.requires.1 c.loop-k.k c.loop-k-test.true).some, runs_inside c.loop-k.invariant c.loop-k-test.true c.if-t-at.false)

pub loop-k-preserved : goal.loop-k-preserved
loop-k-preserved c =
    runs_next c.loop-k.invariant c.loop-k-test.true c.if-t-at.false c.lay_run.ensures

pub returns : goal.returns
returns c = runs_all c.loop-k.invariant c.loop-k-test.false c.if-t-at.false c.if-n-gt-RUNS.false c.requires.1
