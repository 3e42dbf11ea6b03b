use Prim.Native.Nat.{◌+◌, ◌-◌, ◌*◌, ◌/◌}
use native.Mathlib.Omega.{arith}
use Rattle.cell_maps.proofs.RunLaws.{seeking_all, seeking_inside, seeking_up, seeking_down, seeking_end}
use Rattle.cell_maps.proofs.last_run.Goals as goal

pub loop-lo-init : goal.loop-lo-init
loop-lo-init c = seeking_all c.requires

pub overflow_add-lo : goal.overflow_add-lo
overflow_add-lo c = omega (arith, c.loop-lo.invariant.near, c.loop-lo.invariant.inside.within, c.well_formed)

pub bounds-t-cell : goal.bounds-t-cell
bounds-t-cell c = seeking_inside c.loop-lo.invariant c.loop-lo-test.true

pub overflow_cast-t : goal.overflow_cast-t
overflow_cast-t c =
    omega (arith, c.type_inv.t (c.args.m.at + 2 * (c.loop-lo.lo + (c.loop-lo.hi - c.loop-lo.lo) / 2)))

pub loop-lo-preserved-then-t-cell : goal.loop-lo-preserved-then-t-cell
loop-lo-preserved-then-t-cell c = seeking_up c.loop-lo.invariant c.loop-lo-test.true c.if-t-cell.true

pub loop-lo-preserved : goal.loop-lo-preserved
loop-lo-preserved c = seeking_down c.loop-lo.invariant c.loop-lo-test.true c.if-t-cell.false

pub returns : goal.returns
returns c = seeking_end c.loop-lo.invariant c.loop-lo-test.false
