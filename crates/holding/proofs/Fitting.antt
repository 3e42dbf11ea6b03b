-- The ways through the parts of a rule.
use Prim.Native.Nat.{ℕ, ◌+◌}
use mathlib.Core.Path.{◌≡◌, ap, ◌∙◌}
use mathlib.Core.Bool.{Bool, true, false, not}
use mathlib.Core.List.{List}
use native.Mathlib.Omega.{arith}
use lib.ListN.{drop}
use lib.Dec.{ltb}
use borrow.Author.Tests.{lt-ltb, le-ltb, not-true, not-false}
use Rattle.replay_laws.specs.Places.{backward}
use Rattle.rules.specs.declared.RuleParts.{RuleParts}
use Rattle.holding.specs.Held.{runs_on}
use Rattle.holding.specs.Fitting.{sequence_of, parts_fit}
use Rattle.holding.specs.declared.Sequence.{Sequence}
use Rattle.holding.specs.declared.How.{How}

-- The parts of a rule, one after another.
module _ (s : List ℕ) (h : How) (r : RuleParts) (text : List ℕ) (place start : ℕ) where
  pub parts_none : r.count ≡ 0 → false ≡ parts_fit s h r text place start
  unfolding parts_fit
  parts_none e = rw (le-ltb 0 r.count (omega arith))

  module _ (c : r.count ≡ 0 → ⊥) {q : Sequence} (e : q ≡ sequence_of h.sort h.input r.input) {b : Bool} (f : b ≡ runs_on s q (drop start text)) where
    counts : ltb 0 r.count ≡ true
    counts = lt-ltb 0 r.count (omega arith)

    held_input : b ≡ runs_on s (sequence_of h.sort h.input r.input) (drop start text)
    held_input = f ∙ ap (λ (p : Sequence). runs_on s p (drop start text)) e

    pub parts_input : not b ≡ true → false ≡ parts_fit s h r text place start
    unfolding parts_fit
    parts_input z = rw (counts, ← held_input, not-true b z)

    module _ (z : not b ≡ false) {p : Sequence} (d : p ≡ sequence_of h.sort h.ahead r.ahead) {a : Bool} (g : a ≡ runs_on s p (drop (place + r.count) text)) where
      held_ahead : a ≡ runs_on s (sequence_of h.sort h.ahead r.ahead) (drop (place + r.count) text)
      held_ahead = g ∙ ap (λ (p : Sequence). runs_on s p (drop (place + r.count) text)) d

      pub parts_ahead : not a ≡ true → false ≡ parts_fit s h r text place start
      unfolding parts_fit
      parts_ahead y = rw (counts, ← held_input, not-false b z, ← held_ahead, not-true a y)

      pub parts_back : not a ≡ false → {t : Sequence} → t ≡ sequence_of h.sort h.back r.back → {v : Bool} → v ≡ runs_on s t (backward text place) → v ≡ parts_fit s h r text place start
      unfolding parts_fit
      parts_back y i j = rw (counts, ← held_input, not-false b z, ← held_ahead, not-false a y) (j ∙ ap (λ (p : Sequence). runs_on s p (backward text place)) i)
