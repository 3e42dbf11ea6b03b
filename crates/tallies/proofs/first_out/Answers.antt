use mathlib.Core.Path.{refl, sym}
use borrow.Author.Tests.{eq-eqb, ne_eqb}
use Rattle.tallies.proofs.first_out.Goals as goal

pub returns-then-first-eq0 : goal.returns-then-first-eq0
returns-then-first-eq0 c = sym (rw (eq-eqb c.args.first 0 c.if-first-eq0.true) refl)

pub returns : goal.returns
returns c = sym (rw (ne_eqb c.args.first 0 c.if-first-eq0.false) refl)
