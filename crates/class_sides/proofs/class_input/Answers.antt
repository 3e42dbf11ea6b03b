use Rattle.class_sides.proofs.Siding.{input_few, marks_near, marks_few, may_mark, input_laid}
use mathlib.Core.Path.{refl}
use native.Mathlib.Omega.{arith}
use Rattle.class_sides.proofs.class_input.Goals as goal

pub returns-then-map-eq0 : goal.returns-then-map-eq0
returns-then-map-eq0 c = input_few c.requires c.class_side-side.ensures c.no_input.result c.if-map-eq0.true c.no_input.ensures

pub overflow_add-marks : goal.overflow_add-marks
overflow_add-marks c = omega (arith, marks_near c.requires c.class_side-side.ensures c.if-map-eq0.false)

pub overflow_add-marks-2 : goal.overflow_add-marks-2
overflow_add-marks-2 c = omega (arith, marks_near c.requires c.class_side-side.ensures c.if-map-eq0.false)

pub overflow_add-marks-3 : goal.overflow_add-marks-3
overflow_add-marks-3 c = omega (arith, c.mark_cells-cells.ensures, marks_near c.requires c.class_side-side.ensures c.if-map-eq0.false)

pub returns-then-t-marks : goal.returns-then-t-marks
returns-then-t-marks c = marks_few c.requires c.class_side-side.ensures c.if-map-eq0.false refl c.mark_cells-cells.ensures c.no_input-then-t-marks.result c.if-t-marks.true c.no_input-then-t-marks.ensures

pub mark_covered-requires : goal.mark_covered-requires
mark_covered-requires c = may_mark c.requires c.class_side-side.ensures c.if-map-eq0.false refl c.mark_cells-cells.ensures c.if-t-marks.false

pub returns : goal.returns
returns c = input_laid c.requires c.class_side-side.ensures c.if-map-eq0.false refl c.mark_cells-cells.ensures c.if-t-marks.false c.mark_covered.ensures
