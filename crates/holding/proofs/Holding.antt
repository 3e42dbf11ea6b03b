-- The ways through holding numbers against glyphs.
use Prim.Native.Nat.{ℕ, suc, ◌+◌, ◌-◌, ◌*◌, ◌≤◌, ◌<◌}
use mathlib.Core.Path.{◌≡◌, refl, sym, ap, ◌∙◌}
use Rattle.std.specs.Prelude.{Option, None, Some}
use Rattle.std.specs.Option as option
use mathlib.Core.Bool.{Bool, true, false, ◌&&◌, not}
use mathlib.Core.List.{List}
use native.Mathlib.Omega.{arith}
use native.Mathlib.Nat.{add-zero, zero-add}
use lib.ListN.{get_or, drop}
use lib.Dec.{eqb}
use borrow.Author.Tests.{eq-eqb, ne_eqb, not-true, not-false}
use Rattle.meaning.specs.Words.{word, words, is_some}
use Rattle.meaning.specs.Parts.{coverage, class_in}
use Rattle.meaning.specs.Matching.{covers?, in_class}
use Rattle.laws.specs.Left.{words_length, words_all}
use Rattle.replay_laws.specs.Places.{backward, fits_on, on_turn, on_short, on_end, fits_back, back_turn, back_short, back_end, glyph_at}
use Rattle.coverage_index.specs.Index.{index_of, member_index}
use Rattle.class_stretches.specs.Tables.{table_at}
use Rattle.holding.specs.Held.{cover_at, held, runs_on}
use Rattle.holding.specs.declared.Sequence.{Sequence}

-- A coverage: a null one, and another, which has the glyph if the glyph has an index.
module _ (s : List ℕ) (at g : ℕ) where
  pub covers_null : at ≡ 0 → false ≡ covers? (cover_at s at) g
  unfolding covers?
  covers_null h = rw (eq-eqb at 0 h)

  pub covers_there : (at ≡ 0 → ⊥) → {o : Option ℕ} → o ≡ index_of (coverage s at) g → option.is_some o ≡ covers? (cover_at s at) g
  unfolding covers? is_some
  covers_there h e = rw (ne_eqb at 0 h, member_index (coverage s at) g, e) (step (index_of (coverage s at) g))
    where
      step : (o : Option ℕ) → option.is_some o ≡ is_some o
      step None = refl
      step (Some i) = refl

-- A number, by its sort.
module _ (s : List ℕ) (sort table w g : ℕ) where
  pub held_glyph : sort ≡ 0 → eqb w g ≡ held s sort table w g
  unfolding held
  held_glyph h = rw (eq-eqb sort 0 h)

  pub held_class : (sort ≡ 0 → ⊥) → sort ≡ 1 → {c : ℕ} → c ≡ class_in (table_at s table) g → eqb c w ≡ held s sort table w g
  unfolding held in_class
  held_class h k e = rw (ne_eqb sort 0 h, eq-eqb sort 1 k, e)

  pub held_cover : (sort ≡ 0 → ⊥) → (sort ≡ 1 → ⊥) → {r : Bool} → r ≡ covers? (cover_at s w) g → r ≡ held s sort table w g
  unfolding held
  held_cover h k e = rw (ne_eqb sort 0 h, ne_eqb sort 1 k) e

-- What the loop of `fits_on` keeps: the answer for the numbers that are left is the whole answer.
pub record Onward (s : List ℕ) (q : Sequence) (string : List ℕ) (n place i : ℕ) : Type 0 where
  pub within : i ≤ q.len
  pub left : fits_on (held s q.sort q.table) s q.at q.len (words string 0 n) i (place + i) ≡ runs_on s q (drop place (words string 0 n))

-- the glyph of a place
pub place_glyph : (string : List ℕ) (n k : ℕ) {g : ℕ} → k < n → g ≡ word string (2 * k) → get_or (words string 0 n) k 0 ≡ g
place_glyph string n k h e = glyph_at string 0 n k h ∙ ap (word string) (zero-add (2 * k)) ∙ sym e

module _ {s : List ℕ} {q : Sequence} {string : List ℕ} {n place : ℕ} where
  pub onward_all : Onward s q string n place 0
  unfolding runs_on
  onward_all = record { within = omega arith; left = rw (words_all s q.at q.len, add-zero place) }

  module _ {i : ℕ} (k : Onward s q string n place i) (h : i < q.len) where
    -- the string ends
    pub onward_short : n ≤ place + i → false ≡ runs_on s q (drop place (words string 0 n))
    onward_short l =
        sym (on_short (held s q.sort q.table) s q.at q.len (words string 0 n) i (place + i) h (omega (arith, words_length string 0 n))) ∙ k.left

    module _ (l : place + i < n) {w g : ℕ} (e : w ≡ word s (q.at + 2 * i)) (f : g ≡ word string (2 * (place + i))) {b : Bool} (t : b ≡ held s q.sort q.table w g) where
      turn : b && fits_on (held s q.sort q.table) s q.at q.len (words string 0 n) (i + 1) (suc (place + i)) ≡ runs_on s q (drop place (words string 0 n))
      turn =
          rw (t, e, ← place_glyph string n (place + i) l f)
          (sym (on_turn (held s q.sort q.table) s q.at q.len (words string 0 n) i (place + i) h (omega (arith, words_length string 0 n))) ∙ k.left)

      pub onward_not : not b ≡ true → false ≡ runs_on s q (drop place (words string 0 n))
      onward_not z = rw (not-true b z) at turn

      pub onward_turn : not b ≡ false → Onward s q string n place (i + 1)
      onward_turn z =
          let d : place + (i + 1) ≡ suc (place + i) = omega arith in
          record { within = omega arith; left = rw d (rw (not-false b z) at turn) }

  pub onward_end : {i : ℕ} → Onward s q string n place i → q.len ≤ i → true ≡ runs_on s q (drop place (words string 0 n))
  onward_end {i} k h = sym (on_end (held s q.sort q.table) s q.at q.len (words string 0 n) i (place + i) h) ∙ k.left

-- The same for `fits_back`, before a place.
pub record Away (s : List ℕ) (q : Sequence) (string : List ℕ) (n place i : ℕ) : Type 0 where
  pub within : i ≤ q.len
  pub before : i ≤ place
  pub left : fits_back (held s q.sort q.table) s q.at q.len (words string 0 n) i (place - i) ≡ runs_on s q (backward (words string 0 n) place)

module _ {s : List ℕ} {q : Sequence} {string : List ℕ} {n place : ℕ} where
  pub away_all : Away s q string n place 0
  unfolding runs_on
  away_all =
      let d : place - 0 ≡ place = omega arith in
      record { within = omega arith; before = omega arith; left = rw (words_all s q.at q.len, d) }

  module _ {i : ℕ} (k : Away s q string n place i) (h : i < q.len) where
    -- no glyph is left
    pub away_short : place ≤ i → false ≡ runs_on s q (backward (words string 0 n) place)
    away_short l =
        let d : place - i ≡ 0 = omega arith in
        sym (back_short (held s q.sort q.table) s q.at q.len (words string 0 n) i h) ∙ (rw d at k.left)

    module _ (l : i < place) (m : place < n) {w g : ℕ} (e : w ≡ word s (q.at + 2 * i)) (f : g ≡ word string (2 * (place - i - 1))) {b : Bool} (t : b ≡ held s q.sort q.table w g) where
      turn_back : b && fits_back (held s q.sort q.table) s q.at q.len (words string 0 n) (i + 1) (place - i - 1) ≡ runs_on s q (backward (words string 0 n) place)
      turn_back =
          let d : place - i ≡ suc (place - i - 1) = omega arith in
          rw (t, e, ← place_glyph string n (place - i - 1) (omega arith) f)
          (sym (back_turn (held s q.sort q.table) s q.at q.len (words string 0 n) i (place - i - 1) h) ∙ (rw d at k.left))

      pub away_not : not b ≡ true → false ≡ runs_on s q (backward (words string 0 n) place)
      away_not z = rw (not-true b z) at turn_back

      pub away_turn : not b ≡ false → Away s q string n place (i + 1)
      away_turn z =
          let d : place - (i + 1) ≡ place - i - 1 = omega arith in
          record { within = omega arith; before = omega arith; left = rw d (rw (not-false b z) at turn_back) }

  pub away_end : {i : ℕ} → Away s q string n place i → q.len ≤ i → true ≡ runs_on s q (backward (words string 0 n) place)
  away_end {i} k h = sym (back_end (held s q.sort q.table) s q.at q.len (words string 0 n) i (place - i) h) ∙ k.left
