-- A class table by its offset, which may be null, and by its format.
use Rattle.std.specs.Prelude.{ℕ, ◌+◌, ◌*◌, ◌≤◌, ◌≡◌, true, cond, List, [], length, leb, eqb, Option, None, Some}
use borrow.Author.Tests.{leb-true, eq-eqb, ne_eqb}
use Rattle.meaning.specs.Words.{word, words, triples, inside}
use Rattle.meaning.specs.Parts.{ranges_ascend, array_classes, range_classes, classes, classes_sound, listed}
use Rattle.laws.specs.Runs.{both}

-- the class table at an offset; there is none where it is null
unfoldable pub table_at : List ℕ → ℕ → Option (List (ℕ × ℕ))
table_at s at = cond (eqb at 0) None (Some (classes s at))

-- what it lists
abbrev pub classes_at : List ℕ → ℕ → List (ℕ × ℕ)
classes_at s at = listed (table_at s at)

-- the offset is null, or the table there is sound
pub record NullOrSound (s : List ℕ) (at : ℕ) : Type 0 where
  pub sound : (at ≡ 0 → ⊥) → classes_sound s at ≡ true

-- what the class array of the table at `at` says
abbrev pub array_at : List ℕ → ℕ → List (ℕ × ℕ)
array_at s at = array_classes (word s (at + 2)) (words s (at + 6) (word s (at + 4)))

-- the array lies inside the source
pub record ArrayInside (s : List ℕ) (at : ℕ) : Type 0 where
  pub inside : at + 6 + 2 * word s (at + 4) ≤ length s

-- a null table lists nothing; another is read by its format
pub null_table : (s : List ℕ) {at : ℕ} → at ≡ 0 → table_at s at ≡ None
unfolding table_at
null_table s {at} h = rw (eq-eqb at 0 h)

pub table_there : (s : List ℕ) {at : ℕ} → (at ≡ 0 → ⊥) → table_at s at ≡ Some (classes s at)
unfolding table_at
table_there s {at} h = rw (ne_eqb at 0 h)

pub null_lists : (s : List ℕ) {at : ℕ} → at ≡ 0 → classes_at s at ≡ []
unfolding listed
null_lists s h = rw (null_table s h)

pub lists_there : (s : List ℕ) {at : ℕ} → (at ≡ 0 → ⊥) → classes_at s at ≡ classes s at
unfolding listed
lists_there s h = rw (table_there s h)

module _ {s : List ℕ} {at : ℕ} (z : at ≡ 0 → ⊥) (k : NullOrSound s at) where
  -- its head lies inside the source
  pub head_inside : at + 4 ≤ length s
  unfolding classes_sound inside
  head_inside = leb-true (at + 4) (length s) (both (leb (at + 4) (length s)) _ (k.sound z)).0

  module _ {format : ℕ} (f : format ≡ word s at) where
    pub by_array : format ≡ 1 → classes_at s at ≡ array_at s at
    unfolding classes
    by_array e = rw (lists_there s z, ← f, e)

    pub array_inside : format ≡ 1 → ArrayInside s at
    unfolding classes_sound inside
    array_inside e =
        let p = both (leb (at + 6) (length s)) _ (rw (← f, e) at (both (leb (at + 4) (length s)) _ (k.sound z)).1) in
        record { inside = leb-true (at + 6 + 2 * word s (at + 4)) (length s) (both (leb (at + 6 + 2 * word s (at + 4)) (length s)) _ p.1).0 }

    module _ {n : ℕ} (g : n ≡ word s (at + 2)) (e : format ≡ 1 → ⊥) where
      pub by_ranges : classes_at s at ≡ range_classes (triples s (at + 4) n)
      unfolding classes
      by_ranges = rw (lists_there s z, ← f, ← g, ne_eqb format 1 e)

      pub ranges_sound : (at + 4 + 6 * n ≤ length s) × (ranges_ascend 0 (triples s (at + 4) n) ≡ true)
      unfolding classes_sound inside
      ranges_sound =
          let p = both (eqb format 2) _ (rw (← f, ← g, ne_eqb format 1 e) at (both (leb (at + 4) (length s)) _ (k.sound z)).1) in
          let q = both (leb (at + 4 + 6 * n) (length s)) _ p.1 in
          (leb-true (at + 4 + 6 * n) (length s) q.0, q.1)
