use Rattle.context_classes.proofs.Cutting.{input_asks, input_short, marks_inside, back_asks, back_short, back_inside, ahead_asks, ahead_short, classes_laid}
use mathlib.Core.Path.{◌∙◌}
use native.Mathlib.Omega.{arith}
use Rattle.context_classes.proofs.lay_classes.Goals as goal

pub class_input-input-requires : goal.class_input-input-requires
class_input-input-requires c = input_asks c.requires c.input_at.ensures

pub returns-then-input-eq0 : goal.returns-then-input-eq0
returns-then-input-eq0 c = input_short c.requires c.input_at.ensures c.class_input-input.ensures c.no_classes.result c.if-input-eq0.true c.no_classes.ensures

pub overflow_add-past : goal.overflow_add-past
overflow_add-past c =
    let e = marks_inside c.requires c.input_at.ensures c.class_input-input.ensures c.if-input-eq0.false c.mark_cells.ensures in
    omega (arith, e, c.class_input-input.ensures.same.size, c.requires.cells)

pub class_side-side-requires : goal.class_side-side-requires
class_side-side-requires c = back_asks c.requires c.input_at.ensures c.class_input-input.ensures c.if-input-eq0.false c.mark_cells.ensures c.back_at.ensures

pub shape_of-t-then-back-eq0 : goal.shape_of-t-then-back-eq0
shape_of-t-then-back-eq0 c = c.class_side-side.ensures.same.size ∙ c.class_input-input.ensures.same.size

pub returns-then-back-eq0 : goal.returns-then-back-eq0
returns-then-back-eq0 c = back_short c.requires c.input_at.ensures c.class_input-input.ensures c.if-input-eq0.false c.mark_cells.ensures c.back_at.ensures c.class_side-side.ensures c.no_classes-then-back-eq0.result c.if-back-eq0.true c.no_classes-then-back-eq0.ensures

pub overflow_add-last : goal.overflow_add-last
overflow_add-last c =
    let e = back_inside c.requires c.input_at.ensures c.class_input-input.ensures c.if-input-eq0.false c.mark_cells.ensures c.back_at.ensures c.class_side-side.ensures c.if-back-eq0.false in
    omega (arith, e, c.class_side-side.ensures.same.size, c.class_input-input.ensures.same.size, c.requires.cells)

pub overflow_add-last-2 : goal.overflow_add-last-2
overflow_add-last-2 c =
    let e = back_inside c.requires c.input_at.ensures c.class_input-input.ensures c.if-input-eq0.false c.mark_cells.ensures c.back_at.ensures c.class_side-side.ensures c.if-back-eq0.false in
    omega (arith, e, c.class_side-side.ensures.same.size, c.class_input-input.ensures.same.size, c.requires.cells)

pub class_side-side-requires-2 : goal.class_side-side-requires-2
class_side-side-requires-2 c = ahead_asks c.requires c.input_at.ensures c.class_input-input.ensures c.if-input-eq0.false c.mark_cells.ensures c.back_at.ensures c.class_side-side.ensures c.if-back-eq0.false c.ahead_at.ensures

pub shape_of-t-then-ahead-eq0 : goal.shape_of-t-then-ahead-eq0
shape_of-t-then-ahead-eq0 c = c.class_side-side-2.ensures.same.size ∙ c.class_side-side.ensures.same.size ∙ c.class_input-input.ensures.same.size

pub returns-then-ahead-eq0 : goal.returns-then-ahead-eq0
returns-then-ahead-eq0 c = ahead_short c.requires c.input_at.ensures c.class_input-input.ensures c.if-input-eq0.false c.mark_cells.ensures c.back_at.ensures c.class_side-side.ensures c.if-back-eq0.false c.ahead_at.ensures c.class_side-side-2.ensures c.no_classes-then-ahead-eq0.result c.if-ahead-eq0.true c.no_classes-then-ahead-eq0.ensures

pub shape_of-t : goal.shape_of-t
shape_of-t c = c.class_side-side-2.ensures.same.size ∙ c.class_side-side.ensures.same.size ∙ c.class_input-input.ensures.same.size

pub returns : goal.returns
returns c = classes_laid c.requires c.input_at.ensures c.class_input-input.ensures c.if-input-eq0.false c.mark_cells.ensures c.back_at.ensures c.class_side-side.ensures c.if-back-eq0.false c.ahead_at.ensures c.class_side-side-2.ensures c.if-ahead-eq0.false
