-- The index of a glyph among the glyphs of ranges.
use Prim.Native.Nat.{ℕ, zero, suc, ◌+◌, ◌-◌, ◌*◌, ◌≤◌, ◌<◌}
use mathlib.Core.Path.{◌≡◌, refl, ap, ◌∙◌}
use mathlib.Core.Bool.{true}
use Rattle.std.specs.Prelude.{Option, None, Some}
use mathlib.Core.List.{List, ◌++◌}
use native.Mathlib.Decide.{dec_lt}
use native.Mathlib.Omega.{arith}
use lib.Dec.{eqb}
use borrow.Author.Tests.{eqb-true, eq-eqb, ne_eqb}
use Rattle.meaning.specs.Words.{word, triples, up_from, bind}
use Rattle.meaning.specs.Parts.{span, range_glyphs, ranges_ascend, ranges_count}
use Rattle.laws.specs.Runs.{both}
use Rattle.halving.specs.Rising.{Reached}
use Rattle.halving.specs.Columns.{first_range, ranges_least, ranges_apart, end_place}
use Rattle.coverage_index.specs.Index.{index_of, SoundRanges}

-- an index among the others, after n that are not the glyph
unfoldable past : ℕ → Option ℕ → Option ℕ
past n o = bind o (λ i. Some (n + i))

past_none : (o : Option ℕ) → o ≡ past 0 o
unfolding bind past
past_none None = refl
past_none (Some i) = ap Some (omega arith)

past_more : (n : ℕ) (o : Option ℕ) → bind (past n o) (λ i. Some (suc i)) ≡ past (suc n) o
unfolding bind past
past_more n None = refl
past_more n (Some i) = ap Some (omega arith)

past_some : (n i j : ℕ) → n + i ≡ j → past n (Some i) ≡ Some j
unfolding bind past
past_some n i j e = ap Some e

past_not : (n : ℕ) → past n None ≡ None
unfolding bind past
past_not n = refl

-- a run that has not the glyph, and others after it
run_apart : (a n : ℕ) (rest : List ℕ) (g : ℕ) → ((k : ℕ) → k < n → a + k ≡ g → ⊥) → index_of (up_from a n ++ rest) g ≡ past n (index_of rest g)
unfolding index_of up_from
run_apart a zero rest g h = past_none (index_of rest g)
run_apart a (suc n) rest g h =
    rw (ne_eqb a g (λ e. h 0 (omega arith) (omega arith)), run_apart (a + 1) n rest g (λ k l e. h (suc k) (omega arith) (omega arith))) (past_more n (index_of rest g))

-- a run that has it
run_holds : (a n : ℕ) (rest : List ℕ) (g d : ℕ) → d < n → g ≡ a + d → index_of (up_from a n ++ rest) g ≡ Some d
unfolding index_of up_from bind
run_holds a zero rest g d h e = absurd (omega arith)
run_holds a (suc n) rest g zero h e =
    let f : a ≡ g = omega arith in
    rw (eq-eqb a g f)
run_holds a (suc n) rest g (suc d) h e =
    let f : a ≡ g → ⊥ = λ q. omega arith in
    rw (ne_eqb a g f, run_holds (a + 1) n rest g d (omega arith) (omega arith))

module _ (s : List ℕ) where
  -- the number of the first range, and those of the others
  first_count : (at n before : ℕ) → ranges_count before (triples s at (suc n)) ≡ true
      → (word s (at + 4) ≡ before) × (ranges_count (before + (word s (at + 2) + 1 - word s at)) (triples s (at + 6) n) ≡ true)
  unfolding triples ranges_count
  first_count at n before c =
      let t = both (eqb (word s (at + 4)) before) _ c in
      (eqb-true (word s (at + 4)) before t.0, t.1)

  -- none is below the first
  count_least : (k n at before : ℕ) → k < n → ranges_count before (triples s at n) ≡ true → before ≤ word s (at + 6 * k + 4)
  count_least k zero at before l c = absurd (omega arith)
  count_least zero (suc n) at before l c =
      let e : at + 6 * 0 + 4 ≡ at + 4 = omega arith in
      rw e (omega (arith, (first_count at n before c).0))
  count_least (suc k) (suc n) at before l c =
      let e : at + 6 * suc k ≡ at + 6 + 6 * k = omega arith in
      rw e (omega (arith, count_least k n (at + 6) (before + (word s (at + 2) + 1 - word s at)) (omega arith) (first_count at n before c).1))

  module _ (g : ℕ) where
    -- the first range has not the glyph, or it has
    first_apart : (at n : ℕ) → ((k : ℕ) → k < word s (at + 2) + 1 - word s at → word s at + k ≡ g → ⊥)
        → index_of (range_glyphs (triples s at (suc n))) g ≡ past (word s (at + 2) + 1 - word s at) (index_of (range_glyphs (triples s (at + 6) n)) g)
    unfolding triples range_glyphs span
    first_apart at n h = run_apart (word s at) (word s (at + 2) + 1 - word s at) (range_glyphs (triples s (at + 6) n)) g h

    first_has : (at n : ℕ) → word s at ≤ g → g ≤ word s (at + 2) → index_of (range_glyphs (triples s at (suc n))) g ≡ Some (g - word s at)
    unfolding triples range_glyphs span
    first_has at n h l = run_holds (word s at) (word s (at + 2) + 1 - word s at) (range_glyphs (triples s (at + 6) n)) g (g - word s at) (omega arith) (omega arith)

    nothing_there : (at : ℕ) → index_of (range_glyphs (triples s at 0)) g ≡ None
    unfolding triples range_glyphs index_of
    nothing_there at = refl

    -- the glyph stands in the k-th range
    in_range : (k n at low before : ℕ) → k < n → ranges_ascend low (triples s at n) ≡ true → ranges_count before (triples s at n) ≡ true
        → word s (at + 6 * k) ≤ g → g ≤ word s (at + 6 * k + 2)
        → (i : ℕ) → before + i ≡ word s (at + 6 * k + 4) + (g - word s (at + 6 * k)) → index_of (range_glyphs (triples s at n)) g ≡ Some i
    in_range k zero at low before d h c l m i q = absurd (omega arith)
    in_range zero (suc n) at low before d h c l m i q =
        let e : at + 6 * 0 ≡ at = omega arith in
        let q' = rw e at q in
        let j : i ≡ g - word s at = omega (arith, (first_count at n before c).0) in
        rw j (first_has at n (rw e at l) (rw e at m))
    in_range (suc k) (suc n) at low before d h c l m i q =
        let e : at + 6 * suc k ≡ at + 6 + 6 * k = omega arith in
        let z = word s (at + 2) + 1 in
        let w = z - word s at in
        let f = first_range s at n low h in
        let t = (first_count at n before c).1 in
        let q' : before + i ≡ word s (at + 6 + 6 * k + 4) + (g - word s (at + 6 + 6 * k)) = rw e at q in
        let l' : word s (at + 6 + 6 * k) ≤ g = rw e at l in
        let b : before + w ≤ word s (at + 6 + 6 * k + 4) = count_least k n (at + 6) (before + w) (omega arith) t in
        first_apart at n (λ j u v. omega (arith, (ranges_least s k n (at + 6) z (omega arith) f.others).0))
        ∙ ap (past w) (in_range k n (at + 6) z (before + w) (omega arith) f.others t l' (rw e at m) (i - w) (omega arith))
        ∙ past_some w (i - w) i (omega arith)

    -- no range has it
    in_gap : (n at low : ℕ) → ranges_ascend low (triples s at n) ≡ true → ((k : ℕ) → k < n → word s (at + 6 * k) ≤ g → g ≤ word s (at + 6 * k + 2) → ⊥)
        → index_of (range_glyphs (triples s at n)) g ≡ None
    in_gap zero at low h m = nothing_there at
    in_gap (suc n) at low h m =
        let w = word s (at + 2) + 1 - word s at in
        let e : at + 6 * 0 ≡ at = omega arith in
        let here : word s at ≤ g → g ≤ word s (at + 2) → ⊥ = rw e at (m 0 (omega arith)) in
        first_apart at n (λ k u v. here (omega arith) (omega (arith, (first_range s at n low h).order)))
        ∙ ap (past w) (in_gap n (at + 6) (word s (at + 2) + 1) (first_range s at n low h).others (λ k l. let d : at + 6 * suc k ≡ at + 6 + 6 * k = omega arith in rw d at (m (suc k) (omega arith))))
        ∙ past_not w

module _ {s : List ℕ} {at n g i : ℕ} (h : SoundRanges s at n) (k : Reached s (at + 2) 6 n 0 g i) where
  -- the ranges before the i-th end before the glyph; if the i-th begins after it, or there is none, no range has it
  gap : (i < n → g < word s (at + 6 * i)) → (j : ℕ) → j < n → word s (at + 6 * j) ≤ g → g ≤ word s (at + 6 * j + 2) → ⊥
  gap up j l a b = step (dec_lt j i) (dec_lt i j)
    where
      step : Dec (j < i) → Dec (i < j) → ⊥
      step (yes c) d = omega (arith, end_place s at j, k.below j (omega arith) c)
      step (no c) (yes d) = omega (arith, up (omega arith), (ranges_least s i n at 0 (omega arith) h.ascend).1, ranges_apart s i j n at 0 d l h.ascend)
      step (no c) (no d) =
          let q : j ≡ i = omega arith in
          let w : word s (at + 6 * i) ≤ g = rw q at a in
          omega (arith, w, up (omega arith))

  -- the answer: no range is left, the i-th begins after the glyph, or it holds it
  pub range_none : n ≤ i → None ≡ index_of (range_glyphs (triples s at n)) g
  range_none l = rw (in_gap s g n at 0 h.ascend (gap (λ a. absurd (omega arith))))

  module _ {first : ℕ} (l : i < n) (e : first ≡ word s (at + 6 * i)) where
    pub range_gap : g < first → None ≡ index_of (range_glyphs (triples s at n)) g
    range_gap a = rw (in_gap s g n at 0 h.ascend (gap (λ b. omega arith)))

    pub range_in : {x : ℕ} → first ≤ g → x ≡ word s (at + 6 * i + 4) → Some (x + (g - first)) ≡ index_of (range_glyphs (triples s at n)) g
    range_in {x} a f = rw (in_range s g i n at 0 0 l h.ascend h.count (omega arith) (omega (arith, end_place s at i, k.above l)) (x + (g - first)) (omega arith))
