use native.Mathlib.Omega.{arith}
use Rattle.cell_maps.specs.Cells.{cell_of, cell_inside}
use Rattle.fold_pairs.proofs.Laws.{adds_none, adds_one}
use Rattle.fold_pairs.proofs.add.Goals as goal

pub overflow_add-cell : goal.overflow_add-cell
overflow_add-cell c =
    omega (arith, cell_inside c.requires.0 c.args.old, c.well_formed)

pub offset_bounds-t-cell : goal.offset_bounds-t-cell
offset_bounds-t-cell c =
    omega (arith, cell_inside c.requires.0 c.args.old, c.well_formed)

pub bounds-t-cell : goal.bounds-t-cell
bounds-t-cell c = cell_inside c.requires.0 c.args.old

pub overflow_cast-key : goal.overflow_cast-key
overflow_cast-key c = omega (arith, c.type_inv.t (cell_of c.args.m c.args.old))

pub returns-then-key-m : goal.returns-then-key-m
returns-then-key-m c =
    adds_none (omega (arith, c.type_inv.t (cell_of c.args.m c.args.old))) c.if-key-m.true

pub offset_bounds-t-cell-2 : goal.offset_bounds-t-cell-2
offset_bounds-t-cell-2 c =
    omega (arith, cell_inside c.requires.0 c.args.old, c.well_formed)

pub bounds-t-cell-2 : goal.bounds-t-cell-2
bounds-t-cell-2 c =
    cell_inside c.requires.0 c.args.old

pub returns : goal.returns
returns c =
    adds_one (omega (arith, c.slice_known-1.given (cell_of c.args.m c.args.old))) c.if-key-m.false
