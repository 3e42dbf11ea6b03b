use mathlib.Core.Path.{◌∙◌}
use Prim.Native.Nat.{◌+◌, ◌*◌}
use native.Mathlib.Omega.{arith}
use Rattle.cell_maps.proofs.RunLaws.{run_none, run_past, run_has}
use Rattle.cell_maps.proofs.run_entry.Goals as goal

pub returns-then-k-eq0 : goal.returns-then-k-eq0
returns-then-k-eq0 c =
    (c.no_entry.ensures.0 ∙ run_none c.args.t.now c.args.at c.args.k c.args.old c.if-k-eq0.true, c.no_entry.ensures.1)

pub overflow_mul-last : goal.overflow_mul-last
overflow_mul-last c = omega (arith, c.requires c.if-k-eq0.false, c.well_formed)

pub overflow_add-last : goal.overflow_add-last
overflow_add-last c = omega (arith, c.requires c.if-k-eq0.false, c.well_formed)

pub overflow_add-last-2 : goal.overflow_add-last-2
overflow_add-last-2 c = omega (arith, c.requires c.if-k-eq0.false, c.well_formed)

pub offset_bounds-t-at : goal.offset_bounds-t-at
offset_bounds-t-at c = omega (arith, c.requires c.if-k-eq0.false, c.well_formed)

pub bounds-t-at : goal.bounds-t-at
bounds-t-at c = c.requires c.if-k-eq0.false

pub overflow_cast-last : goal.overflow_cast-last
overflow_cast-last c = omega (arith, c.type_inv.t (c.args.at + 2 * c.args.k + 1))

pub returns-then-last-old : goal.returns-then-last-old
returns-then-last-old c =
    (c.no_entry-then-last-old.ensures.0 ∙ run_past c.args.t.now c.args.at c.args.k c.args.old c.if-k-eq0.false c.if-last-old.true, c.no_entry-then-last-old.ensures.1)

pub overflow_mul-run : goal.overflow_mul-run
overflow_mul-run c = omega (arith, c.requires c.if-k-eq0.false, c.well_formed)

pub overflow_add-run : goal.overflow_add-run
overflow_add-run c = omega (arith, c.requires c.if-k-eq0.false, c.well_formed)

pub offset_bounds-t-at-2 : goal.offset_bounds-t-at-2
offset_bounds-t-at-2 c = omega (arith, c.requires c.if-k-eq0.false, c.well_formed)

pub bounds-t-at-2 : goal.bounds-t-at-2
bounds-t-at-2 c = omega (arith, c.requires c.if-k-eq0.false)

pub overflow_cast-run : goal.overflow_cast-run
overflow_cast-run c = omega (arith, c.type_inv.t (c.args.at + 2 * c.args.k))

pub overflow_sub-result : goal.overflow_sub-result
overflow_sub-result c = omega (arith, c.type_inv.t (c.args.at + 2 * c.args.k))

pub returns : goal.returns
returns c =
    (run_has c.args.t.now c.args.at c.args.k c.args.old c.if-k-eq0.false c.if-last-old.false, omega (arith, c.if-last-old.false))
