use borrow.Author.Tests.{eq-eqb, ne_eqb}
use native.Mathlib.Omega.{arith}
use Rattle.cover_differences.proofs.count_at.Goals as goal

pub returns-then-at-eq0 : goal.returns-then-at-eq0
returns-then-at-eq0 c = (rw (eq-eqb _ _ c.if-at-eq0.true), omega arith)

pub returns : goal.returns
returns c = (rw (ne_eqb _ _ c.if-at-eq0.false) c.word_at.ensures.0, omega arith)
