-- Marks of places that were looked at, one bit each.
use Rattle.std.specs.Prelude.{ℕ, ◌≡◌, true, List, replicate}
use Rattle.std.proofs.Common.{sym, ◌∙◌, true≢false}
use Rattle.bits.specs.Bits.{marked}
use Rattle.bits.specs.Reading.{none_marked}

-- what `f` says of a place that has a mark is `v`
pub record Marked {A : Type 0} (f : ℕ → A) (v : A) (marks : List ℕ) : Type 0 where
  pub known : (p : ℕ) → marked marks 0 p ≡ true → f p ≡ v

-- zeros mark no place
pub marked_none : {A : Type 0} {f : ℕ → A} {v : A} (n : ℕ) → Marked f v (replicate n 0)
marked_none n = record { known = λ p m. absurd (true≢false (sym m ∙ none_marked n 0 p)) }
