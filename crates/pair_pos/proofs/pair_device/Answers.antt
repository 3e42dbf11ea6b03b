use mathlib.Core.Path.{sym, ◌∙◌}
use borrow.Author.Tests.{eq-eqb, ne_eqb}
use Rattle.pair_pos.proofs.pair_device.Goals as goal

pub returns-then-kind-ne4 : goal.returns-then-kind-ne4
returns-then-kind-ne4 c = rw (ne_eqb _ _ c.if-kind-ne4.true)

pub returns-then-has_device : goal.returns-then-has_device
returns-then-has_device c =
    let first = rw c.word_at.ensures.0 at (sym c.has_device.ensures ∙ c.if-has_device.true) in
    rw (eq-eqb _ _ c.if-kind-ne4.false, first)

pub returns : goal.returns
returns c =
    let first = rw c.word_at.ensures.0 at (sym c.has_device.ensures ∙ c.if-has_device.false) in
    rw (eq-eqb _ _ c.if-kind-ne4.false, first) (rw c.word_at-2.ensures.0 at c.has_device-2.ensures)
