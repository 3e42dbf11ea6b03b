use borrow.Author.Tests.{eq-eqb, ne_eqb}
use Rattle.pair_fields.specs.Pairs.{value_at}
use Rattle.pair_fields.proofs.value_at.Goals as goal

pub returns-then-place-eq0 : goal.returns-then-place-eq0
unfolding value_at
returns-then-place-eq0 c = rw (eq-eqb _ _ c.if-place-eq0.true)

pub returns : goal.returns
unfolding value_at
returns c = rw (ne_eqb _ _ c.if-place-eq0.false) c.word_inside.ensures.0
