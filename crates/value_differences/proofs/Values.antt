-- The values of pair records: which field each is, and what is listed where two differ.
use Prim.Native.Nat.{ℕ, zero, suc, ◌+◌, ◌-◌, ◌*◌, ◌≤◌, ◌<◌}
use mathlib.Core.Path.{◌≡◌, refl, sym, ap, ◌∙◌}
use mathlib.Core.List.{List, [], ◌∷◌, ◌++◌}
use native.Mathlib.Omega.{arith}
use lib.ListN.{get_or}
use borrow.Author.Tests.{eq-eqb, ne_eqb}
use Rattle.meaning.specs.Words.{word, words, up_from}
use Rattle.meaning.specs.Tables.{field_count, field}
use Rattle.differences.specs.Content.{four_values}
use Rattle.differences.specs.Entries.{each, at_field}
use Rattle.difference_laws.specs.Walks.{nil_each}
use Rattle.listing.specs.Listed.{entry_of, Listed, listed_none, listed_said, Through, through_turn}
use Rattle.value_differences.specs.Held.{field_bit, values_at, value_entry, size_of}

-- the four values of a value record are its four fields
four_first : (f : ℕ) (vs rest : List ℕ) (i : ℕ) → i < 4 → get_or (four_values f vs ++ rest) i 0 ≡ field f vs (field_bit i)
unfolding four_values
four_first f vs rest zero h = refl
four_first f vs rest (suc zero) h = refl
four_first f vs rest (suc (suc zero)) h = refl
four_first f vs rest (suc (suc (suc zero))) h = refl
four_first f vs rest (suc (suc (suc (suc i)))) h = absurd (omega arith)

four_alone : (f : ℕ) (vs : List ℕ) (i : ℕ) → i < 4 → get_or (four_values f vs) i 0 ≡ field f vs (field_bit i)
unfolding four_values
four_alone f vs zero h = refl
four_alone f vs (suc zero) h = refl
four_alone f vs (suc (suc zero)) h = refl
four_alone f vs (suc (suc (suc zero))) h = refl
four_alone f vs (suc (suc (suc (suc i)))) h = absurd (omega arith)

four_past : (f : ℕ) (vs rest : List ℕ) (j : ℕ) → get_or (four_values f vs ++ rest) (suc (suc (suc (suc j)))) 0 ≡ get_or rest j 0
unfolding four_values
four_past f vs rest j = refl

module _ (s : List ℕ) (p i : ℕ) {f k r : ℕ} (e : f ≡ word s 4) where
  -- the two ways through `value_at`
  pub value_first : i < 4 → k ≡ field_bit i → r ≡ field f (words s (p + 2) (field_count f)) k → r ≡ get_or (values_at s p) i 0
  unfolding values_at
  value_first h b g =
      g ∙ rw (e, b) (sym (four_first (word s 4) (words s (p + 2) (field_count (word s 4))) (four_values (word s 6) (words s (p + 2 + 2 * field_count (word s 4)) (field_count (word s 6)))) i h))

  pub value_second : 4 ≤ i → i < 8 → k ≡ field_bit (i - 4) → {n h : ℕ} → n ≡ field_count f → h ≡ word s 6
      → r ≡ field h (words s (p + 2 + 2 * n) (field_count h)) k → r ≡ get_or (values_at s p) i 0
  unfolding values_at
  value_second l m b {n} {h} c d g =
      let j : i ≡ suc (suc (suc (suc (i - 4)))) = omega arith in
      let v = words s (p + 2 + 2 * field_count (word s 4)) (field_count (word s 6)) in
      let a : get_or (four_values (word s 6) v) (i - 4) 0 ≡ r = four_alone (word s 6) v (i - 4) (omega arith) ∙ sym (g ∙ rw (c, e, d, b)) in
      sym (ap (λ (x : ℕ). get_or (values_at s p) x 0) j ∙ four_past (word s 4) (words s (p + 2) (field_count (word s 4))) (four_values (word s 6) v) (i - 4) ∙ a)

-- the size of a pair record
pub size_is : (s : List ℕ) {f h a b : ℕ} → f ≡ word s 4 → (a ≡ field_count f) × (a ≤ 8) → h ≡ word s 6 → (b ≡ field_count h) × (b ≤ 8)
    → (2 + 2 * a + 2 * b ≡ size_of s) × (2 + 2 * a + 2 * b ≤ 34)
size_is s e x g y = (rw (x.0, y.0, e, g), omega (arith, x.1, y.1))

module _ (g second i : ℕ) {a b : ℕ} where
  -- the two ways through `put_value`
  pub value_same : {out : List ℕ} {pos : ℕ} → a ≡ b → Listed (value_entry g second i a b) out pos out pos × (pos ≤ pos + 12)
  value_same e = (listed_said listed_none (rw (eq-eqb a b e)), omega arith)

  pub value_differs : {out next : List ℕ} {pos r : ℕ} → (a ≡ b → ⊥) → Listed (entry_of 6 i g second a b ∷ []) out pos next r
      → Listed (value_entry g second i a b) out pos next r × (r ≤ pos + 12)
  value_differs e l = (listed_said l (rw (ne_eqb a b e)), omega (arith, l.place))

-- one turn of `list_fields`
pub valuing_turn : (g second : ℕ) (xs ys : List ℕ) {out₀ : List ℕ} {pos : ℕ} {out next : List ℕ} {at i a b q : ℕ} → Through (at_field g second xs ys) 8 12 out₀ pos out at i → i < 8
    → a ≡ get_or xs i 0 → b ≡ get_or ys i 0 → Listed (value_entry g second i a b) out at next q × (q ≤ at + 12) → Through (at_field g second xs ys) 8 12 out₀ pos next q (i + 1)
unfolding at_field
valuing_turn g second xs ys k h e f l = through_turn k h (listed_said l.0 (rw (e, f))) l.1

-- records with the same words, in tables with the same value formats, have the same values
pub alike_values : (l r : List ℕ) (p q : ℕ) {f h n m : ℕ} → f ≡ word l 4 → h ≡ word l 6 → f ≡ word r 4 → h ≡ word r 6 → n ≡ field_count f → m ≡ field_count h
    → words l (p + 2) n ≡ words r (q + 2) n → words l (p + 2 + 2 * n) m ≡ words r (q + 2 + 2 * n) m → values_at l p ≡ values_at r q
unfolding values_at
alike_values l r p q a b c d x y u v =
    rw (sym a, sym b, sym c, sym d, sym x, sym y, u, v)

-- nothing is listed where the values are the same
pub nothing_listed : (g second : ℕ) {xs ys out : List ℕ} {pos : ℕ} → xs ≡ ys → Listed (each (at_field g second xs ys) (up_from 0 8)) out pos out pos × (pos ≤ pos + 96)
unfolding at_field
nothing_listed g second {xs} {ys} e =
    (listed_said listed_none (sym (rw e (nil_each (at_field g second ys ys) (up_from 0 8) (λ f. rw (eq-eqb (get_or ys f 0) (get_or ys f 0) refl))))), omega arith)
