use native.Mathlib.Omega.{arith}
use Rattle.fold_pairs.proofs.cells.Goals as goal

pub returns-then-list-gt64 : goal.returns-then-list-gt64
returns-then-list-gt64 c = (c.power-all.ensures.two, c.power-all.ensures.few c.past_last.ensures)

pub returns-then-all-few : goal.returns-then-all-few
returns-then-all-few c = (c.power-all.ensures.two, c.power-all.ensures.few c.past_last.ensures)

pub returns : goal.returns
returns c = (c.power-few.ensures.two, c.power-few.ensures.few (omega arith))
