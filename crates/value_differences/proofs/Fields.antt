-- Fields of value records: a field that the format has is the word at its place, and one that it has not reads as 0.
use Prim.Native.Nat.{ℕ, ◌+◌, ◌*◌, ◌/◌, ◌%◌, ◌<◌}
use mathlib.Core.Path.{◌≡◌, refl, sym, ◌∙◌}
use mathlib.Core.Bool.{Bool, true, false, ◌||◌, true≢false}
use mathlib.Core.List.{List}
use native.Mathlib.Omega.{arith}
use lib.Dec.{eqb}
use borrow.Author.Tests.{eq-eqb, ne_eqb, eqb-true}
use Rattle.meaning.specs.Words.{word, words}
use Rattle.meaning.specs.Tables.{bit, field_count, fields_below, field}
use Rattle.laws.specs.Left.{words_at}
use Rattle.pair_places.specs.Formats.{Below, below}
use Rattle.value_differences.specs.Held.{is_field}

-- what holds of each of the four fields holds of any of them
each_field : (P : ℕ → Type 0) → P 1 → P 2 → P 4 → P 8 → (k : ℕ) → is_field k ≡ true → P k
each_field P p1 p2 p4 p8 k = step (eqb k 1) refl (eqb k 2) refl (eqb k 4) refl (eqb k 8) refl
  where
    step : (a : Bool) → eqb k 1 ≡ a → (b : Bool) → eqb k 2 ≡ b → (c : Bool) → eqb k 4 ≡ c → (d : Bool) → eqb k 8 ≡ d → a || (b || (c || d)) ≡ true → P k
    step true e b _ c _ d _ h = rw (eqb-true k 1 e) p1
    step false _ true e c _ d _ h = rw (eqb-true k 2 e) p2
    step false _ false _ true e d _ h = rw (eqb-true k 4 e) p4
    step false _ false _ false _ true e h = rw (eqb-true k 8 e) p8
    step false _ false _ false _ false _ h = absurd (true≢false (sym h))

-- a field's number is no 0, so that formats can be divided by it
pub field_positive : (k : ℕ) → is_field k ≡ true → 0 < k
field_positive = each_field (λ k. 0 < k) (omega arith) (omega arith) (omega arith) (omega arith)

module _ (f k : ℕ) where
  below_count : is_field k ≡ true → Below f k
  below_count = let b = below f in each_field (Below f) b.0 b.1.0 b.1.1.0 b.1.1.1.0 k

  pub field_there : is_field k ≡ true → f / k % 2 ≡ 1 → (s : List ℕ) (at : ℕ) {n w : ℕ} → n ≡ field_count (f % k) → w ≡ word s (at + 2 * n)
      → w ≡ field f (words s at (field_count f)) k
  unfolding bit fields_below field
  field_there h b s at e g = g ∙ rw (e, eq-eqb (bit f k) 1 b) (sym (words_at s at (field_count f) (fields_below f k) (below_count h b)))

  pub field_absent : (f / k % 2 ≡ 1 → ⊥) → (vs : List ℕ) → 0 ≡ field f vs k
  unfolding bit field
  field_absent b vs = rw (ne_eqb (bit f k) 1 b)
