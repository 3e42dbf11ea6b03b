use native.Mathlib.Omega.{arith}
use borrow.Author.Tests.{eq-eqb, ne_eqb}
use Rattle.cut_sizes.specs.Cutting.{pairs_by_class}
use Rattle.cut_sizes.proofs.pairs_by_class.Goals as goal

pub returns-then-kind-ne4 : goal.returns-then-kind-ne4
unfolding pairs_by_class
returns-then-kind-ne4 c = rw (ne_eqb c.args.kind 4 c.if-kind-ne4.true)

pub returns : goal.returns
unfolding pairs_by_class
returns c =
    rw (eq-eqb c.args.kind 4 (omega (arith, c.if-kind-ne4.false)), c.word_at.ensures.0)
