use mathlib.Core.Logic.{inl, inr}
use borrow.Author.Tests.{leb-true}
use Rattle.set_differences.proofs.Pairs.{known_no, known_if}
use native.Mathlib.Omega.{arith}
use Rattle.set_differences.proofs.is_known.Goals as goal

pub returns-then-cell-sets : goal.returns-then-cell-sets
returns-then-cell-sets c = known_no

pub returns-then-cell-sets-2 : goal.returns-then-cell-sets-2
returns-then-cell-sets-2 c = known_no

pub returns-then-cell-eq0 : goal.returns-then-cell-eq0
returns-then-cell-eq0 c = known_if (omega arith) (omega arith) (λ q. inl (omega arith))

pub returns : goal.returns
returns c = known_if (omega arith) (omega arith) (λ q. inr (leb-true _ _ q))
