-- The ways through the check of a coverage, and what its loop over ranges keeps.
use Prim.Native.Nat.{ℕ, ◌+◌, ◌-◌, ◌*◌, ◌≤◌, ◌<◌}
use mathlib.Core.Path.{◌≡◌, refl, sym, ap, ◌∙◌}
use mathlib.Core.Bool.{Bool, true, false, ◌&&◌}
use mathlib.Core.List.{List, ◌∷◌}
use native.Mathlib.Omega.{arith}
use lib.ListN.{length}
use lib.Dec.{leb, eqb}
use borrow.Author.Tests.{leb-true, ne_eqb}
use Rattle.meaning.specs.Words.{word, triples, inside, ascends}
use Rattle.meaning.specs.Parts.{ranges_ascend, ranges_count, coverage_sound}
use Rattle.laws.specs.Runs.{both}
use Rattle.laws.specs.Left.{column, triples_left, triples_all, triples_none, words_column}

-- Checking ranges.

-- the tests of one range, and those of the ranges after it
and_apart : (p q t a c : Bool) → (p && (q && a)) && (t && c) ≡ (p && (q && t)) && (a && c)
and_apart true true true a c = refl
and_apart true true false true c = refl
and_apart true true false false c = refl
and_apart true false t a c = refl
and_apart false q t a c = refl

-- the ranges ascend from low on, and count from `before` on
abbrev pub ranges_fit : ℕ → ℕ → List (ℕ × ℕ × ℕ) → Bool
ranges_fit low before rs = ranges_ascend low rs && ranges_count before rs

ranges_first : (low before a z x : ℕ) (r : List (ℕ × ℕ × ℕ))
    → ranges_fit low before ((a, z, x) ∷ r) ≡ (leb low a && (leb a z && eqb x before)) && ranges_fit (z + 1) (before + (z + 1 - a)) r
unfolding ranges_ascend ranges_count
ranges_first low before a z x r = and_apart (leb low a) (leb a z) (eqb x before) (ranges_ascend (z + 1) r) (ranges_count (before + (z + 1 - a)) r)

-- What the loop of `ranges_sound` keeps: the answer for what is left is the whole answer. The glyphs before are below the lowest that is left.
pub record Checking (s : List ℕ) (at n low before i : ℕ) : Type 0 where
  pub within : i ≤ n
  pub small : low ≤ 65536
  pub near : before ≤ low
  pub left : ranges_fit low before (triples s (at + 6 * i) (n - i)) ≡ ranges_fit 0 0 (triples s at n)

-- a range that fits lies from low on, and its start is at most its end
pub fits_order : (low a z : ℕ) (t : Bool) → leb low a && (leb a z && t) ≡ true → (low ≤ a) × (a ≤ z)
fits_order low a z t h =
    let p = both (leb low a) _ h in
    (leb-true low a p.0, leb-true a z (both (leb a z) _ p.1).0)

module _ {s : List ℕ} {at n : ℕ} where
  pub checking_all : Checking s at n 0 0 0
  checking_all = record { within = omega arith; small = omega arith; near = omega arith; left = rw (triples_all s at n) }

  module _ {low before i a z x : ℕ} {b : Bool} (k : Checking s at n low before i) (h : i < n)
      (ea : a ≡ word s (at + 6 * i)) (ez : z ≡ word s (at + 6 * i + 2)) (ex : x ≡ word s (at + 6 * i + 4))
      (eb : b ≡ leb low a && (leb a z && eqb x before)) where
    -- the range's answer, and that for the others
    turn : b && ranges_fit (z + 1) (before + (z + 1 - a)) (triples s (at + 6 * (i + 1)) (n - (i + 1))) ≡ ranges_fit 0 0 (triples s at n)
    turn = rw (eb, ea, ez, ex) (sym (ranges_first low before _ _ _ _) ∙ ap (ranges_fit low before) (sym (triples_left s at n i h)) ∙ k.left)

    pub checking_turn : z < 65536 → b ≡ true → Checking s at n (z + 1) (before + (z + 1 - a)) (i + 1)
    checking_turn small f =
        let o = fits_order low a z (eqb x before) (sym eb ∙ f) in
        record { within = omega arith; small = omega arith; near = omega (arith, k.near); left = rw f at turn }

    -- a range that does not fit settles it
    pub checking_faulty : b ≡ false → false ≡ ranges_fit 0 0 (triples s at n)
    checking_faulty f = rw f at turn

  pub checking_end : {low before i : ℕ} → Checking s at n low before i → n ≤ i → true ≡ ranges_fit 0 0 (triples s at n)
  unfolding ranges_ascend ranges_count
  checking_end {i = i} k h = rw (triples_none s (at + 6 * i) n i h) at k.left

-- Checking a coverage.

module _ (s : List ℕ) (at : ℕ) where
  -- an array after the four bytes of the header lies inside if both together do
  inside_after : (n : ℕ) → inside s (at + 4) n ≡ inside s at (4 + n)
  unfolding inside
  inside_after n =
      let e : at + 4 + n ≡ at + (4 + n) = omega arith in
      ap (λ (m : ℕ). leb m (length s)) e

  pub sound_cut : inside s at 4 ≡ false → false ≡ coverage_sound s at
  unfolding coverage_sound
  sound_cut h = rw h

  module _ (h : inside s at 4 ≡ true) where
    -- by its format: the tests of a list of glyphs, those of ranges, and no others
    pub sound_listed : {n : ℕ} → n ≡ word s (at + 2) → word s at ≡ 1 → inside s at (4 + 2 * n) && ascends (column s 2 (at + 4) n) ≡ coverage_sound s at
    unfolding coverage_sound
    sound_listed e f = rw (h, f, e, inside_after (2 * word s (at + 2)), words_column s (at + 4) (word s (at + 2)))

    pub sound_ranged : {n : ℕ} → n ≡ word s (at + 2) → word s at ≡ 2 → inside s at (4 + 6 * n) && ranges_fit 0 0 (triples s (at + 4) n) ≡ coverage_sound s at
    unfolding coverage_sound
    sound_ranged e f = rw (h, f, e, inside_after (6 * word s (at + 2)))

    pub sound_other : (word s at ≡ 1 → ⊥) → (word s at ≡ 2 → ⊥) → false ≡ coverage_sound s at
    unfolding coverage_sound
    sound_other f g = rw (h, ne_eqb _ _ f, ne_eqb _ _ g)
