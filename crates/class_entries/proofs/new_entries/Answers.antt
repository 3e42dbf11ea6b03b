use Rattle.class_entries.proofs.Entering.{entering_all, entering_inside, entering_room, entering_map, entering_none, entering_one, entering_end}
use Prim.Native.Nat.{◌+◌, ◌-◌}
use native.Mathlib.Omega.{arith}
use Rattle.class_entries.proofs.new_entries.Goals as goal
use Rattle.class_entries.proofs.new_entries.Goals.{then-new-ne0, else-new-ne0}

pub loop-e-init : goal.loop-e-init
loop-e-init c = entering_all c.requires

pub overflow_add-cell : goal.overflow_add-cell
overflow_add-cell c = omega (arith, entering_inside c.loop-e.invariant c.loop-e-test.true, c.loop-e.invariant.elsewhere.size, c.well_formed)

pub offset_bounds-t-list : goal.offset_bounds-t-list
offset_bounds-t-list c = omega (arith, entering_inside c.loop-e.invariant c.loop-e-test.true, c.loop-e.invariant.elsewhere.size, c.well_formed)

pub bounds-t-list : goal.bounds-t-list
bounds-t-list c = entering_inside c.loop-e.invariant c.loop-e-test.true

pub overflow_cast-cell : goal.overflow_cast-cell
overflow_cast-cell c = omega (arith, c.slice_known-in-loop-e-1.given (c.args.list + c.loop-e.e))

pub new_class-new-requires : goal.new_class-new-requires
new_class-new-requires c = entering_map c.loop-e.invariant c.loop-e-test.true

pub overflow_mul-t : goal.overflow_mul-t
overflow_mul-t c = omega (arith, c.slice_known-in-loop-e-1.given (c.args.list + c.loop-e.e))

pub overflow_add-t : goal.overflow_add-t
overflow_add-t c = omega (arith, c.slice_known-in-loop-e-1.given (c.args.list + c.loop-e.e), c.new_class-new.ensures.1)

pub overflow_cast-t : goal.overflow_cast-t
overflow_cast-t c = omega (arith, c.slice_known-in-loop-e-1.given (c.args.list + c.loop-e.e), c.new_class-new.ensures.1)

pub overflow_add-t-then-new-ne0 : goal.overflow_add-t-then-new-ne0
overflow_add-t-then-new-ne0 c = omega (arith, entering_room c.loop-e.invariant c.loop-e-test.true, c.loop-e.invariant.elsewhere.size, c.well_formed)

pub offset_bounds-t-list-then-new-ne0 : goal.offset_bounds-t-list-then-new-ne0
offset_bounds-t-list-then-new-ne0 c = omega (arith, entering_room c.loop-e.invariant c.loop-e-test.true, c.loop-e.invariant.elsewhere.size, c.well_formed)

pub bounds-t-list-then-new-ne0 : goal.bounds-t-list-then-new-ne0
bounds-t-list-then-new-ne0 c = entering_room c.loop-e.invariant c.loop-e-test.true

pub loop-e-preserved : goal.loop-e-preserved
loop-e-preserved c =
    elim c.if-new-ne0.branch [
      | then-new-ne0 w ↦ rw (w.t-is, w.k-is) (entering_one c.loop-e.invariant c.loop-e-test.true c.new_class-new.ensures w.if-new-ne0.true)
      | else-new-ne0 w ↦ rw (w.t-is, w.k-is) (entering_none c.loop-e.invariant c.loop-e-test.true c.new_class-new.ensures w.if-new-ne0.false)
    ]

pub shape_of-t : goal.shape_of-t
shape_of-t c = c.loop-e.invariant.elsewhere.size

pub returns : goal.returns
returns c = entering_end c.loop-e.invariant c.loop-e-test.false
