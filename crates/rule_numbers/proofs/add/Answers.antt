use mathlib.Core.Path.{ap}
use Prim.Native.Nat.{ℕ, ◌+◌}
use Rattle.rule_numbers.proofs.Keeping.{added}
use Rattle.rule_numbers.proofs.add.Goals as goal

pub returns : goal.returns
returns c = let e = ap (λ (n : ℕ). n + 1) c.cell-k.ensures.0 in (e, added c.requires.0 c.requires.2 e c.cell-old.ensures.0 c.put_cell.ensures c.put_cell-2.ensures c.put_cell-3.ensures c.put_cell-4.ensures, c.put_cell-5.ensures)
