use borrow.Author.Tests.{le-leb, lt-leb}
use Rattle.coverage.proofs.range_fits.Goals as goal

pub returns-then-first-low : goal.returns-then-first-low
returns-then-first-low c = simp (lt-leb _ _ c.if-first-low.true)

pub returns-then-last-first : goal.returns-then-last-first
returns-then-last-first c = simp (le-leb _ _ c.if-first-low.false, lt-leb _ _ c.if-last-first.true)

pub returns : goal.returns
returns c = simp (le-leb _ _ c.if-first-low.false, le-leb _ _ c.if-last-first.false)
