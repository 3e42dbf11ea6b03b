use borrow.Author.Tests.{eq-eqb, ne_eqb}
use Rattle.field_uses.specs.Used.{set_uses}
use Rattle.field_uses.proofs.set_uses.Goals as goal

pub returns-then-at-eq0 : goal.returns-then-at-eq0
unfolding set_uses
returns-then-at-eq0 c = rw (eq-eqb _ _ c.if-at-eq0.true)

pub field_used-requires : goal.field_used-requires
field_used-requires c =
    (c.requires.0 c.if-at-eq0.false, c.requires.1, c.requires.2)

pub returns : goal.returns
unfolding set_uses
returns c = rw (ne_eqb _ _ c.if-at-eq0.false) c.field_used.ensures
