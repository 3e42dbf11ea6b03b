-- A covered glyph in a stretch, as halving finds it.
use Prim.Native.Nat.{ℕ, zero, suc, ◌+◌, ◌-◌, ◌*◌, ◌≤◌, ◌<◌}
use mathlib.Core.Path.{◌≡◌, refl, sym, ◌∙◌}
use mathlib.Core.Bool.{Bool, true, false, ◌&&◌, ◌||◌}
use mathlib.Core.List.{List, [], ◌∷◌, ◌++◌}
use native.Mathlib.Decide.{dec_lt}
use native.Mathlib.Omega.{arith}
use lib.ListN.{length, get_or}
use lib.Dec.{leb, eqb}
use borrow.Author.Tests.{le-leb, leb-true, leb-false, eq-eqb, ne_eqb}
use Rattle.meaning.specs.Words.{word, words, triples, inside, ascends, up_from}
use Rattle.meaning.specs.Parts.{span, range_glyphs, ranges_ascend, ranges_count, coverage, coverage_sound}
use Rattle.laws.specs.Runs.{both}
use Rattle.laws.specs.Left.{words_length, words_at}
use Rattle.halving.specs.Rising.{Reached}
use Rattle.halving.specs.Columns.{list_rising, first_range, ranges_least, ranges_apart, end_place}
use Rattle.coverage_index.specs.Index.{SoundList, SoundRanges}
use Rattle.covered_between.specs.Stretches.{any_between}

or_true : (b : Bool) → b || true ≡ true
or_true true = refl
or_true false = refl

module _ (a z : ℕ) where
  -- one of a list is between, or none is
  between_hit : (l : List ℕ) (k : ℕ) → k < length l → a ≤ get_or l k 0 → get_or l k 0 ≤ z → any_between a z l ≡ true
  unfolding any_between
  between_hit [] k h p q = absurd (omega arith)
  between_hit (g ∷ l) zero h p q = rw (le-leb a g p, le-leb g z q)
  between_hit (g ∷ l) (suc k) h p q = rw (between_hit l k (omega arith) p q) (or_true (leb a g && leb g z))

  apart : (g : ℕ) → (a ≤ g → g ≤ z → ⊥) → leb a g && leb g z ≡ false
  apart g h = step (leb a g) refl (leb g z) refl
    where
      step : (t : Bool) → leb a g ≡ t → (u : Bool) → leb g z ≡ u → t && u ≡ false
      step true p true q = absurd (h (leb-true a g p) (leb-true g z q))
      step true p false q = refl
      step false p u q = refl

  between_gap : (l : List ℕ) → ((k : ℕ) → k < length l → a ≤ get_or l k 0 → get_or l k 0 ≤ z → ⊥) → any_between a z l ≡ false
  unfolding any_between
  between_gap [] h = refl
  between_gap (g ∷ l) h = rw (apart g (h 0 (omega arith))) (between_gap l (λ k m. h (suc k) (omega arith)))

  -- glyphs in a row before others
  run_hit : (p m : ℕ) (t : List ℕ) (d : ℕ) → d < m → a ≤ p + d → p + d ≤ z → any_between a z (up_from p m ++ t) ≡ true
  unfolding any_between up_from
  run_hit p zero t d l h k = absurd (omega arith)
  run_hit p (suc m) t zero l h k = rw (le-leb a p (omega arith), le-leb p z (omega arith))
  run_hit p (suc m) t (suc d) l h k = rw (run_hit (p + 1) m t d (omega arith) (omega arith) (omega arith)) (or_true (leb a p && leb p z))

  run_miss : (p m : ℕ) (t : List ℕ) → ((d : ℕ) → d < m → a ≤ p + d → p + d ≤ z → ⊥) → any_between a z (up_from p m ++ t) ≡ any_between a z t
  unfolding any_between up_from
  run_miss p zero t h = refl
  run_miss p (suc m) t h = rw (apart p (λ k l. h 0 (omega arith) (omega arith) (omega arith))) (run_miss (p + 1) m t (λ d k l n. h (suc d) (omega arith) (omega arith) (omega arith)))

  later : (l t : List ℕ) → any_between a z t ≡ true → any_between a z (l ++ t) ≡ true
  unfolding any_between
  later [] t h = h
  later (g ∷ l) t h = rw (later l t h) (or_true (leb a g && leb g z))

  module _ (s : List ℕ) where
    -- the first range has one, another has one, or none has
    first_hit : (at n : ℕ) → word s at ≤ word s (at + 2) → word s at ≤ z → a ≤ word s (at + 2) → a ≤ z → any_between a z (range_glyphs (triples s at (suc n))) ≡ true
    unfolding triples range_glyphs span
    first_hit at n o h k l = step (dec_lt (word s at) a)
      where
        m : ℕ
        m = word s (at + 2) + 1 - word s at

        step : Dec (word s at < a) → any_between a z (up_from (word s at) m ++ range_glyphs (triples s (at + 6) n)) ≡ true
        step (yes d) = run_hit (word s at) m (range_glyphs (triples s (at + 6) n)) (a - word s at) (omega arith) (omega arith) (omega arith)
        step (no d) = run_hit (word s at) m (range_glyphs (triples s (at + 6) n)) 0 (omega arith) (omega arith) (omega arith)

    first_later : (at n : ℕ) → any_between a z (range_glyphs (triples s (at + 6) n)) ≡ true → any_between a z (range_glyphs (triples s at (suc n))) ≡ true
    unfolding triples range_glyphs
    first_later at n h = later (span (word s at) (word s (at + 2))) (range_glyphs (triples s (at + 6) n)) h

    first_miss : (at n : ℕ) → (word s at ≤ z → a ≤ word s (at + 2) → ⊥) → any_between a z (range_glyphs (triples s at (suc n))) ≡ any_between a z (range_glyphs (triples s (at + 6) n))
    unfolding triples range_glyphs span
    first_miss at n h = run_miss (word s at) (word s (at + 2) + 1 - word s at) (range_glyphs (triples s (at + 6) n)) (λ d k l m. h (omega arith) (omega arith))

    no_range : (at : ℕ) → any_between a z (range_glyphs (triples s at 0)) ≡ false
    unfolding triples range_glyphs any_between
    no_range at = refl

    range_hit : (k n at low : ℕ) → k < n → ranges_ascend low (triples s at n) ≡ true → word s (at + 6 * k) ≤ z → a ≤ word s (at + 6 * k + 2) → a ≤ z → any_between a z (range_glyphs (triples s at n)) ≡ true
    range_hit k zero at low l h p q o = absurd (omega arith)
    range_hit zero (suc n) at low l h p q o =
        let e : at + 6 * 0 ≡ at = omega arith in
        first_hit at n (first_range s at n low h).order (rw e at p) (rw e at q) o
    range_hit (suc k) (suc n) at low l h p q o =
        let e : at + 6 * suc k ≡ at + 6 + 6 * k = omega arith in
        first_later at n (range_hit k n (at + 6) (word s (at + 2) + 1) (omega arith) (first_range s at n low h).others (rw e at p) (rw e at q) o)

    range_miss : (n at low : ℕ) → ranges_ascend low (triples s at n) ≡ true → ((k : ℕ) → k < n → word s (at + 6 * k) ≤ z → a ≤ word s (at + 6 * k + 2) → ⊥) → any_between a z (range_glyphs (triples s at n)) ≡ false
    range_miss zero at low h m = no_range at
    range_miss (suc n) at low h m =
        let e : at + 6 * 0 ≡ at = omega arith in
        first_miss at n (rw e at (m 0 (omega arith)))
        ∙ range_miss n (at + 6) (word s (at + 2) + 1) (first_range s at n low h).others (λ k l. let d : at + 6 * suc k ≡ at + 6 + 6 * k = omega arith in rw d at (m (suc k) (omega arith)))

-- listed glyphs
module _ {s : List ℕ} {at n a i : ℕ} (z : ℕ) (h : SoundList s at n) (k : Reached s at 2 n 0 a i) where
  pub list_none : n ≤ i → false ≡ any_between a z (words s at n)
  list_none l = sym (between_gap a z (words s at n) (λ j m p q. omega (arith, p, words_at s at n j (omega (arith, m, words_length s at n)), k.below j (omega arith) (omega (arith, m, words_length s at n)))))

  pub list_here : i < n → {w : ℕ} → w ≡ word s (at + 2 * i) → leb w z ≡ any_between a z (words s at n)
  list_here l {w} e = step (leb w z) refl
    where
      gap : z < w → (j : ℕ) → j < length (words s at n) → a ≤ get_or (words s at n) j 0 → get_or (words s at n) j 0 ≤ z → ⊥
      gap u j m p q = split (dec_lt j i) (dec_lt i j)
        where
          here : get_or (words s at n) j 0 ≡ word s (at + 2 * j)
          here = words_at s at n j (omega (arith, m, words_length s at n))

          split : Dec (j < i) → Dec (i < j) → ⊥
          split (yes x) y = omega (arith, here, p, k.below j (omega arith) x)
          split (no x) (yes y) = omega (arith, here, q, (list_rising s at n h.fits h.ascend).rise i j y (omega (arith, m, words_length s at n)))
          split (no x) (no y) =
              let o : j ≡ i = omega arith in
              let v : word s (at + 2 * i) ≤ z = rw o at (rw here at q) in
              omega arith

      step : (t : Bool) → leb w z ≡ t → t ≡ any_between a z (words s at n)
      step true f =
          let v = words_at s at n i l in
          sym (between_hit a z (words s at n) i (omega (arith, words_length s at n)) (omega (arith, v, k.above l)) (omega (arith, v, leb-true w z f)))
      step false f = sym (between_gap a z (words s at n) (gap (leb-false w z f)))

-- glyphs of ranges
module _ {s : List ℕ} {at n a i : ℕ} (z : ℕ) (h : SoundRanges s at n) (k : Reached s (at + 2) 6 n 0 a i) where
  pub range_none : n ≤ i → false ≡ any_between a z (range_glyphs (triples s at n))
  range_none l = sym (range_miss a z s n at 0 h.ascend (λ j m p q. omega (arith, end_place s at j, k.below j (omega arith) (omega arith))))

  pub range_here : i < n → a ≤ z → {w : ℕ} → w ≡ word s (at + 6 * i) → leb w z ≡ any_between a z (range_glyphs (triples s at n))
  range_here l o {w} e = step (leb w z) refl
    where
      gap : z < w → (j : ℕ) → j < n → word s (at + 6 * j) ≤ z → a ≤ word s (at + 6 * j + 2) → ⊥
      gap u j m p q = split (dec_lt j i) (dec_lt i j)
        where
          split : Dec (j < i) → Dec (i < j) → ⊥
          split (yes x) y = omega (arith, q, end_place s at j, k.below j (omega arith) x)
          split (no x) (yes y) = omega (arith, p, ranges_apart s i j n at 0 y m h.ascend, (ranges_least s i n at 0 l h.ascend).1)
          split (no x) (no y) =
              let o : j ≡ i = omega arith in
              let v : word s (at + 6 * i) ≤ z = rw o at p in
              omega arith

      step : (t : Bool) → leb w z ≡ t → t ≡ any_between a z (range_glyphs (triples s at n))
      step true f = sym (range_hit a z s i n at 0 l h.ascend (omega (arith, leb-true w z f)) (omega (arith, end_place s at i, k.above l)) o)
      step false f = sym (range_miss a z s n at 0 h.ascend (gap (leb-false w z f)))

-- a sound coverage, by its format
module _ (s : List ℕ) (at : ℕ) (h : coverage_sound s at ≡ true) {f n : ℕ} (ef : f ≡ word s at) (en : n ≡ word s (at + 2)) where
  fits : (p q : ℕ) → inside s p q ≡ true → p + q ≤ length s
  unfolding inside
  fits p q e = leb-true (p + q) (length s) e

  pub list_sound : f ≡ 1 → SoundList s (at + 4) n
  unfolding coverage_sound
  list_sound e =
      let p = both (inside s (at + 4) (2 * n)) (ascends (words s (at + 4) n)) (rw (← ef, ← en, eq-eqb f 1 e) at (both (inside s at 4) _ h).1) in
      record { fits = fits (at + 4) (2 * n) p.0; ascend = p.1 }

  pub ranges_sound : (f ≡ 1 → ⊥) → SoundRanges s (at + 4) n
  unfolding coverage_sound
  ranges_sound e =
      let p = both (eqb f 2) _ (rw (← ef, ← en, ne_eqb f 1 e) at (both (inside s at 4) _ h).1) in
      let q = both (inside s (at + 4) (6 * n)) _ p.1 in
      let r = both (ranges_ascend 0 (triples s (at + 4) n)) (ranges_count 0 (triples s (at + 4) n)) q.1 in
      record { fits = fits (at + 4) (6 * n) q.0; ascend = r.0; count = r.1 }

  pub by_list : f ≡ 1 → (a z : ℕ) {r : Bool} → r ≡ any_between a z (words s (at + 4) n) → r ≡ any_between a z (coverage s at)
  unfolding coverage
  by_list e a z k = rw (← ef, ← en, eq-eqb f 1 e) k

  pub by_ranges : (f ≡ 1 → ⊥) → (a z : ℕ) {r : Bool} → r ≡ any_between a z (range_glyphs (triples s (at + 4) n)) → r ≡ any_between a z (coverage s at)
  unfolding coverage
  by_ranges e a z k = rw (← ef, ← en, ne_eqb f 1 e) k
