use mathlib.Core.Path.{◌∙◌}
use Prim.Native.Nat.{◌-◌}
use native.Mathlib.Omega.{arith}
use Rattle.class_cells.proofs.Writing.{cells_all, cells_inside, cells_reads, cells_full, cells_turn, cells_end}
use Rattle.class_cells.proofs.write_row.Goals as goal

pub word_inside-n-requires : goal.word_inside-n-requires
word_inside-n-requires c = omega (arith, c.requires.0.header)

pub loop-c-init : goal.loop-c-init
loop-c-init c = cells_all c.word_inside-n.ensures.0 c.requires.0 c.requires.3

pub write_cell-q-requires : goal.write_cell-q-requires
write_cell-q-requires c =
    (cells_reads c.loop-c.invariant c.loop-c-test.true c.requires.1, c.requires.2, c.loop-c.invariant.room)

pub shape_of-area-then-area-q : goal.shape_of-area-then-area-q
shape_of-area-then-area-q c = c.write_cell-q.ensures.same ∙ c.loop-c.invariant.same

pub returns-then-area-q : goal.returns-then-area-q
returns-then-area-q c = cells_full c.loop-c.invariant c.loop-c-test.true c.write_cell-q.ensures c.if-area-q.true

pub overflow_add-cell : goal.overflow_add-cell
overflow_add-cell c = omega (arith, cells_inside c.loop-c.invariant c.loop-c-test.true)

pub loop-c-preserved : goal.loop-c-preserved
loop-c-preserved c = cells_turn c.loop-c.invariant c.loop-c-test.true c.write_cell-q.ensures c.if-area-q.false

pub shape_of-area : goal.shape_of-area
shape_of-area c = c.loop-c.invariant.same

pub returns : goal.returns
returns c = cells_end c.loop-c.invariant c.loop-c-test.false
