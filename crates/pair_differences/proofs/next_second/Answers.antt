use borrow.Author.Tests.{eq-eqb, ne_eqb}
use native.Mathlib.Omega.{arith}
use Rattle.pair_differences.proofs.next_second.Goals as goal

pub returns-then-n-eq0 : goal.returns-then-n-eq0
returns-then-n-eq0 c = (rw (eq-eqb _ _ c.if-n-eq0.true), omega arith)

pub returns : goal.returns
returns c = (rw (ne_eqb _ _ c.if-n-eq0.false) c.word_at.ensures.0, omega arith)
