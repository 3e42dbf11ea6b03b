use mathlib.Core.Path.{refl}
use Prim.Native.Nat.{◌-◌}
use native.Mathlib.Omega.{arith}
use Rattle.cell_maps.proofs.RunLaws.{runs_no_room, spread_none, spread_next, spread_end}
use Rattle.fold_glyphs.proofs.spread_runs.Goals as goal

pub returns-then-t-at : goal.returns-then-t-at
returns-then-t-at c = runs_no_room c.if-t-at.true

pub loop-k-init : goal.loop-k-init
loop-k-init c = (omega arith, spread_none refl c.clear.ensures.0)

pub loop-k-preserved : goal.loop-k-preserved
loop-k-preserved c = (omega arith, spread_next c.loop-k.invariant.1 c.spread_run.ensures)

pub returns : goal.returns
returns c = spread_end c.clear.ensures.1 c.loop-k.invariant.1 (omega arith)
