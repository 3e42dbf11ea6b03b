use Prim.Native.Nat.{◌-◌}
use native.Mathlib.Omega.{arith}
use Rattle.class_formats.proofs.Using.{cells_all, cells_inside, cells_found, cells_next, cells_end}
use Rattle.class_formats.proofs.row_uses.Goals as goal

pub word_inside-n-requires : goal.word_inside-n-requires
word_inside-n-requires c = omega (arith, c.requires.0.header)

pub cells-init : goal.cells-init
cells-init c = cells_all c.word_inside-n.ensures.0 c.requires.0

pub speaks-requires : goal.speaks-requires
speaks-requires c =
    (omega (arith, cells_inside c.cells.invariant c.cells-test.true, c.requires.1), c.requires.2)

pub returns-then-speaks : goal.returns-then-speaks
returns-then-speaks c = cells_found c.cells.invariant c.cells-test.true c.speaks.ensures c.if-speaks.true

pub overflow_add-cell : goal.overflow_add-cell
overflow_add-cell c = omega (arith, cells_inside c.cells.invariant c.cells-test.true)

pub cells-preserved : goal.cells-preserved
cells-preserved c = cells_next c.cells.invariant c.cells-test.true c.speaks.ensures c.if-speaks.false

pub returns : goal.returns
returns c = cells_end c.cells.invariant c.cells-test.false
