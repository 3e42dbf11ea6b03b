use Rattle.known_blocks.proofs.Comparing.{start_by, start_past}
use mathlib.Core.Path.{sym}
use native.Mathlib.Omega.{arith}
use Rattle.known_blocks.proofs.start.Goals as goal

pub returns-then-i-cell : goal.returns-then-i-cell
returns-then-i-cell c = (start_by _ _ _ _ c.cell-then-i-cell.ensures.0 (omega (arith, c.cell.ensures.0)), omega (arith, c.cell-then-i-cell.ensures.1))

pub returns : goal.returns
returns c = (sym (start_past _ _ _ _ (omega (arith, c.cell.ensures.0))), omega arith)
