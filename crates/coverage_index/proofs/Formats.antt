-- A sound coverage, by its format.
use Prim.Native.Nat.{ℕ, ◌+◌, ◌*◌, ◌≤◌}
use mathlib.Core.Path.{◌≡◌}
use mathlib.Core.Bool.{true}
use mathlib.Core.List.{List}
use lib.ListN.{length}
use lib.Dec.{eqb}
use borrow.Author.Tests.{leb-true, eq-eqb, ne_eqb}
use Rattle.meaning.specs.Words.{word, words, triples, inside, ascends}
use Rattle.meaning.specs.Parts.{range_glyphs, ranges_ascend, ranges_count, coverage, coverage_sound}
use Rattle.laws.specs.Runs.{both}
use Rattle.coverage_index.specs.Index.{index_of, SoundList, SoundRanges}
use Rattle.std.specs.Prelude.{Option}

-- what lies inside
inside_fits : (s : List ℕ) (at n : ℕ) → inside s at n ≡ true → at + n ≤ length s
unfolding inside
inside_fits s at n h = leb-true (at + n) (length s) h

module _ (s : List ℕ) (at : ℕ) (h : coverage_sound s at ≡ true) where
  -- the head lies inside
  pub head_fits : at + 4 ≤ length s
  unfolding coverage_sound
  head_fits = inside_fits s at 4 (both (inside s at 4) _ h).0

  module _ {f n : ℕ} (ef : f ≡ word s at) (en : n ≡ word s (at + 2)) where
    -- its glyphs are listed
    pub list_sound : f ≡ 1 → SoundList s (at + 4) n
    unfolding coverage_sound
    list_sound e =
        let p = both (inside s (at + 4) (2 * n)) (ascends (words s (at + 4) n)) (rw (← ef, ← en, eq-eqb f 1 e) at (both (inside s at 4) _ h).1) in
        record { fits = inside_fits s (at + 4) (2 * n) p.0; ascend = p.1 }

    pub by_list : f ≡ 1 → (g : ℕ) {r : Option ℕ} → r ≡ index_of (words s (at + 4) n) g → r ≡ index_of (coverage s at) g
    unfolding coverage
    by_list e g k = rw (← ef, ← en, eq-eqb f 1 e) k

    -- it has ranges
    pub ranges_sound : (f ≡ 1 → ⊥) → SoundRanges s (at + 4) n
    unfolding coverage_sound
    ranges_sound e =
        let p = both (eqb f 2) _ (rw (← ef, ← en, ne_eqb f 1 e) at (both (inside s at 4) _ h).1) in
        let q = both (inside s (at + 4) (6 * n)) _ p.1 in
        let r = both (ranges_ascend 0 (triples s (at + 4) n)) (ranges_count 0 (triples s (at + 4) n)) q.1 in
        record { fits = inside_fits s (at + 4) (6 * n) q.0; ascend = r.0; count = r.1 }

    pub by_ranges : (f ≡ 1 → ⊥) → (g : ℕ) {r : Option ℕ} → r ≡ index_of (range_glyphs (triples s (at + 4) n)) g → r ≡ index_of (coverage s at) g
    unfolding coverage
    by_ranges e g k = rw (← ef, ← en, ne_eqb f 1 e) k
