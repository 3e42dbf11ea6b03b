-- A search for the first glyph of ranges that a map has: what the loop keeps, and each way through its turn.
use Prim.Native.Nat.{ℕ, zero, suc, ◌+◌, ◌-◌, ◌*◌, ◌≤◌, ◌<◌}
use mathlib.Core.Path.{◌≡◌, refl, sym, ap, ◌∙◌}
use mathlib.Core.Bool.{Bool, true, false, ◌&&◌, ◌||◌, true≢false}
use Rattle.std.specs.Prelude.{Option, None, Some}
use mathlib.Core.List.{List, [], ◌∷◌, ◌++◌}
use native.Mathlib.Decide.{dec_lt}
use native.Mathlib.Omega.{arith}
use lib.Dec.{leb}
use borrow.Author.Tests.{leb-true}
use Rattle.meaning.specs.Words.{word, triples, find, is_some, up_from}
use Rattle.meaning.specs.Maps.{glyph_entries}
use Rattle.meaning.specs.Parts.{span, range_glyphs, ranges_ascend}
use Rattle.laws.specs.Runs.{both}
use Rattle.laws.specs.Left.{triples_left, triples_all, triples_none}
use Rattle.glyph_runs.specs.Runs.{run_count, old_of, size_of, Past, Reached, IsRun}
use Rattle.glyph_runs.specs.Found.{run_found, none_found}
use Rattle.glyph_runs.specs.declared.Run.{Run}
use Rattle.listed_meets.specs.Answered.{answered}
use Rattle.noted_runs.specs.Walks.{SeeksRanges}

-- numbers in a row of which none, or one, has an answer
row_none : (f : ℕ → Option ℕ) (a n : ℕ) (cov : List ℕ) → ((x : ℕ) → a ≤ x → x < a + n → f x ≡ None) → answered f (up_from a n ++ cov) ≡ answered f cov
unfolding answered up_from is_some
row_none f a zero cov h = refl
row_none f a (suc n) cov h = rw (h a (omega arith) (omega arith)) (row_none f (a + 1) n cov (λ x l g. h x (omega arith) (omega arith)))

row_hit : (f : ℕ → Option ℕ) (a n : ℕ) (cov : List ℕ) (x : ℕ) → a ≤ x → x < a + n → is_some (f x) ≡ true → answered f (up_from a n ++ cov) ≡ true
unfolding answered up_from
row_hit f a zero cov x l g e = absurd (omega arith)
row_hit f a (suc n) cov x l g e = step (is_some (f a)) refl (dec_lt a x) (λ k. row_hit f (a + 1) n cov x k (omega arith) e)
  where
    step : (b : Bool) → is_some (f a) ≡ b → Dec (a < x) → (a + 1 ≤ x → answered f (up_from (a + 1) n ++ cov) ≡ true) → b || answered f (up_from (a + 1) n ++ cov) ≡ true
    step true q d h = refl
    step false q (yes k) h = h (omega arith)
    step false q (no k) h =
        let s : a ≡ x = omega arith in
        absurd (true≢false (sym e ∙ ap (λ (y : ℕ). is_some (f y)) (sym s) ∙ q))

-- ranges that ascend, from a number on from which none has an answer
ranges_none : (f : ℕ → Option ℕ) (low : ℕ) (rs : List (ℕ × ℕ × ℕ)) → ranges_ascend low rs ≡ true → ((x : ℕ) → low ≤ x → f x ≡ None) → answered f (range_glyphs rs) ≡ false
unfolding answered ranges_ascend range_glyphs span
ranges_none f low [] u h = refl
ranges_none f low ((a, z, x) ∷ rs) u h =
    let p = both (leb low a) (leb a z && ranges_ascend (z + 1) rs) u in
    let q = both (leb a z) (ranges_ascend (z + 1) rs) p.1 in
    let l : low ≤ a = leb-true low a p.0 in
    let g : a ≤ z = leb-true a z q.0 in
    row_none f a (z + 1 - a) (range_glyphs rs) (λ y i j. h y (omega arith)) ∙ ranges_none f (z + 1) rs q.1 (λ y i. h y (omega arith))

-- What the loop keeps: the ranges that are left settle it; they begin with the glyph `low` or later, and the runs that are passed end before it.
pub record Seeking (s : List ℕ) (at n form : ℕ) (m : List ℕ) (e i : ℕ) : Type 0 where
  pub within : i ≤ n
  pub passed : e ≤ run_count form m
  pub low : ℕ
  pub ranges : ranges_ascend low (triples s (at + 6 * i) (n - i)) ≡ true
  pub below : Past form m low e
  pub left : answered (find (glyph_entries form m)) (range_glyphs (triples s (at + 6 * i) (n - i))) ≡ answered (find (glyph_entries form m)) (range_glyphs (triples s at n))

module _ {s : List ℕ} {at n form : ℕ} {m : List ℕ} (a : SeeksRanges s at n form m) where
  pub seeking_all : Seeking s at n form m 0 0
  seeking_all = record { within = omega arith; passed = omega arith; low = 0; ranges = rw (triples_all s at n) a.ranges; below = λ k q. absurd (omega arith); left = rw (triples_all s at n) }

  module _ {e i first last : ℕ} (c : Seeking s at n form m e i) (h : i < n) (ef : first ≡ word s (at + 6 * i)) (el : last ≡ word s (at + 6 * i + 2)) where
    -- the ranges after this one
    abbrev later : List (ℕ × ℕ × ℕ)
    later = triples s (at + 6 * (i + 1)) (n - (i + 1))

    left_is : triples s (at + 6 * i) (n - i) ≡ (first, last, word s (at + 6 * i + 4)) ∷ later
    left_is = rw (ef, el) (triples_left s at n i h)

    order : (c.low ≤ first) × (first ≤ last) × (ranges_ascend (last + 1) later ≡ true)
    unfolding ranges_ascend
    order =
        let p = both (leb c.low first) (leb first last && ranges_ascend (last + 1) later) (rw left_is at c.ranges) in
        let q = both (leb first last) (ranges_ascend (last + 1) later) p.1 in
        (leb-true c.low first p.0, leb-true first last q.0, q.1)

    whole : answered (find (glyph_entries form m)) (up_from first (last + 1 - first) ++ range_glyphs later) ≡ answered (find (glyph_entries form m)) (range_glyphs (triples s at n))
    unfolding range_glyphs span
    whole = rw left_is at c.left

    -- what the search for the next run asks
    pub seeking_past : Past form m first e
    seeking_past k q = omega (arith, c.below k q, order.0)

    module _ {f : ℕ} (r : Reached form m first f) where
      -- a glyph from the range on, before the next run, has no pair
      gone : (x : ℕ) → first ≤ x → (f < run_count form m → x < old_of form m f) → find (glyph_entries form m) x ≡ None
      gone x l b = none_found a.map x r.within (λ k q. omega (arith, r.passed k q)) b

      -- no run is left
      pub seeking_out : run_count form m ≤ f → false ≡ answered (find (glyph_entries form m)) (range_glyphs (triples s at n))
      seeking_out g =
          sym (row_none (find (glyph_entries form m)) first (last + 1 - first) (range_glyphs later) (λ x l j. gone x l (λ w. absurd (omega arith)))
          ∙ ranges_none (find (glyph_entries form m)) (last + 1) later order.2 (λ x l. gone x (omega (arith, order.1)) (λ w. absurd (omega arith)))) ∙ whole

      module _ (g : f < run_count form m) {u : Run} (w : IsRun form m f u) where
        -- the next run begins in the range, or before it and ends in it or later
        pub seeking_hit : u.old ≤ last → true ≡ answered (find (glyph_entries form m)) (range_glyphs (triples s at n))
        unfolding is_some
        seeking_hit l = hit (dec_lt first u.old) ∙ whole
          where
            has : (x : ℕ) → old_of form m f ≤ x → x < old_of form m f + size_of form m f → is_some (find (glyph_entries form m) x) ≡ true
            has x p q =
                let y : old_of form m f + (x - old_of form m f) ≡ x = omega arith in
                ap is_some (rw y at (run_found a.map f (x - old_of form m f) g (omega arith)))

            hit : Dec (first < u.old) → true ≡ answered (find (glyph_entries form m)) (up_from first (last + 1 - first) ++ range_glyphs later)
            hit (yes p) = sym (row_hit (find (glyph_entries form m)) first (last + 1 - first) (range_glyphs later) (old_of form m f) (omega (arith, w.old)) (omega (arith, w.old)) (has (old_of form m f) (omega arith) (omega (arith, w.some, w.count))))
            hit (no p) = sym (row_hit (find (glyph_entries form m)) first (last + 1 - first) (range_glyphs later) first (omega arith) (omega (arith, order.1)) (has first (omega (arith, w.old)) (r.ends g)))

        -- or after it
        pub seeking_turn : last < u.old → Seeking s at n form m f (i + 1)
        seeking_turn l = record {
          within = omega arith;
          passed = r.within;
          low = last + 1;
          ranges = order.2;
          below = λ k q. omega (arith, r.passed k q, order.1);
          left = sym (row_none (find (glyph_entries form m)) first (last + 1 - first) (range_glyphs later) (λ x y j. gone x y (λ v. omega (arith, w.old)))) ∙ whole;
        }

  pub seeking_end : {e i : ℕ} → Seeking s at n form m e i → n ≤ i → false ≡ answered (find (glyph_entries form m)) (range_glyphs (triples s at n))
  unfolding answered range_glyphs
  seeking_end {e} {i} c h = rw (triples_none s (at + 6 * i) n i h) at c.left
