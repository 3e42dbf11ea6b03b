use borrow.Author.Tests.{eq-eqb, ne_eqb}
use Rattle.meaning.specs.Cut.{stand_in}
use Rattle.pair_formats.proofs.stand_in.Goals as goal

pub returns-then-f-eq0 : goal.returns-then-f-eq0
unfolding stand_in
returns-then-f-eq0 c = rw (eq-eqb _ _ c.if-f-eq0.true)

pub returns-then-new-eq0 : goal.returns-then-new-eq0
unfolding stand_in
returns-then-new-eq0 c = rw (ne_eqb _ _ c.if-f-eq0.false, eq-eqb _ _ c.if-new-eq0.true)

pub returns : goal.returns
unfolding stand_in
returns c = rw (ne_eqb _ _ c.if-f-eq0.false, ne_eqb _ _ c.if-new-eq0.false)
