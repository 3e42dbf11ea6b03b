-- The ways through the reading of a class, by array and by ranges.
use Prim.Native.Nat.{ℕ, zero, suc, ◌+◌, ◌-◌, ◌*◌, ◌≤◌, ◌<◌}
use mathlib.Core.Path.{◌≡◌, refl, sym, ◌∙◌}
use mathlib.Core.Bool.{true}
use mathlib.Core.List.{List, ◌∷◌}
use native.Mathlib.Decide.{dec_lt}
use native.Mathlib.Omega.{arith}
use lib.ListN.{get_or, get_or-eq_default}
use lib.Dec.{leb}
use Rattle.meaning.specs.Words.{word, words, triples, find}
use Rattle.meaning.specs.Parts.{ranges_ascend, range_classes, class_of}
use Rattle.laws.specs.Runs.{both}
use Rattle.laws.specs.Left.{words_length, words_at, triples_left, triples_all, triples_none}
use Rattle.laws.specs.ClassesLeft.{array_low, array_at_lem, ranges_rest, range_after, range_in, range_before}
use Rattle.halving.specs.Rising as halving
use Rattle.halving.specs.Columns.{ranges_least, end_place}
use Rattle.class_stretches.specs.Tables.{classes_at, NullOrSound, array_at, null_lists, by_array, by_ranges, ranges_sound}
use Rattle.class_stretches.specs.Stretches.{Ranges, Passed, Ended, Stretched, Ranged, Hint, Found}
use Rattle.class_stretches.specs.declared.Stretch.{Stretch}

-- the stretch that begins with the glyph x in the array of the table at `at`: before it, past it, and in it
module _ (s : List ℕ) (at : ℕ) {first x : ℕ} (f : first ≡ word s (at + 2)) where
  pub array_before : x < first → first < 65536 → Stretched (array_at s at) x (record { last = first - 1; class = 0; next = 0 })
  array_before h k = record {
    holds = omega arith;
    end = omega arith;
    same = λ y a b. rw (← f) (sym (array_low first (words s (at + 6) (word s (at + 4))) y (omega arith)));
    small = omega arith;
  }

  module _ {n : ℕ} (e : n ≡ word s (at + 4)) (h : first ≤ x) where
    at_place_lem : (y : ℕ) → x ≤ y → class_of (array_at s at) y ≡ get_or (words s (at + 6) n) (y - first) 0
    at_place_lem y l =
        let d : first + (y - first) ≡ y = omega arith in
        rw (← f, ← e) (rw d at (array_at_lem first (words s (at + 6) n) (y - first)))

    pub array_past : x < 65536 → n ≤ x - first → Stretched (array_at s at) x (record { last = 65535; class = 0; next = 0 })
    array_past k l = record {
      holds = omega arith;
      end = omega arith;
      same = λ y a b. sym (at_place_lem y a ∙ get_or-eq_default (words s (at + 6) n) 0 (omega (arith, words_length s (at + 6) n)));
      small = omega arith;
    }

    pub array_in : {c : ℕ} → x < 65536 → x - first < n → (c ≡ word s (at + 6 + 2 * (x - first))) × (c < 65536) → Stretched (array_at s at) x (record { last = x; class = c; next = 0 })
    array_in {c} k l g = record {
      holds = omega arith;
      end = k;
      same = λ y a b. let q : y ≡ x = omega arith in rw q (g.0 ∙ sym (at_place_lem x (omega arith) ∙ words_at s (at + 6) n (x - first) l));
      small = g.1;
    }

-- What is kept where ranges are passed: those that are left ascend, and say of the glyph x what all say.
pub record Walking (s : List ℕ) (at n x i : ℕ) : Type 0 where
  pub within : i ≤ n
  pub rise : ranges_ascend 0 (triples s (at + 6 * i) (n - i)) ≡ true
  pub left : class_of (range_classes (triples s (at + 6 * i) (n - i))) x ≡ class_of (range_classes (triples s at n)) x

module _ {s : List ℕ} {at n x : ℕ} where
  pub walking_all : ranges_ascend 0 (triples s at n) ≡ true → Walking s at n x 0
  walking_all h = record { within = omega arith; rise = rw (triples_all s at n) h; left = rw (triples_all s at n) }

  module _ {i last : ℕ} (k : Walking s at n x i) (h : i < n) (e : last ≡ word s (at + 6 * i + 2)) where
    abbrev rest : List (ℕ × ℕ × ℕ)
    rest = triples s (at + 6 * (i + 1)) (n - (i + 1))

    rise_now : ranges_ascend 0 ((word s (at + 6 * i), last, word s (at + 6 * i + 4)) ∷ rest) ≡ true
    rise_now = rw (e, ← triples_left s at n i h) k.rise

    left_now : class_of (range_classes ((word s (at + 6 * i), last, word s (at + 6 * i + 4)) ∷ rest)) x ≡ class_of (range_classes (triples s at n)) x
    left_now = rw (e, ← triples_left s at n i h) k.left

    -- the glyph stands after the range
    pub walking_on : last < x → Walking s at n x (i + 1)
    walking_on l = record {
      within = omega arith;
      rise = ranges_rest (word s (at + 6 * i)) last (word s (at + 6 * i + 4)) rest rise_now;
      left = sym (range_after (word s (at + 6 * i)) last (word s (at + 6 * i + 4)) rest rise_now x l) ∙ left_now;
    }

    -- the ranges after it end after it
    end_rise : (d : ℕ) → i + 1 + d < n → last < word s (at + 6 * (i + 1 + d) + 2)
    unfolding ranges_ascend
    end_rise d l =
        let a = word s (at + 6 * i) in
        let p = both (leb a last) _ (both (leb 0 a) _ rise_now).1 in
        let e : at + 6 * (i + 1) + 6 * d ≡ at + 6 * (i + 1 + d) = omega arith in
        let r = rw e at (ranges_least s d (n - (i + 1)) (at + 6 * (i + 1)) (last + 1) (omega arith) p.1) in
        omega (arith, r.0, r.1)

    module _ {first : ℕ} (f : first ≡ word s (at + 6 * i)) where
      -- before it
      pub walking_before : x < first → 0 ≡ class_of (range_classes (triples s at n)) x
      walking_before l = sym (range_before (word s (at + 6 * i)) last (word s (at + 6 * i + 4)) rest rise_now x (rw (← f) l)) ∙ left_now

      -- in it
      pub walking_in : x ≤ last → first ≤ x → word s (at + 6 * i + 4) ≡ class_of (range_classes (triples s at n)) x
      walking_in l g = sym (range_in (word s (at + 6 * i)) last (word s (at + 6 * i + 4)) rest rise_now x (rw (← f) g) l) ∙ left_now

  -- no range is left
  pub walking_end : {i : ℕ} → Walking s at n x i → n ≤ i → 0 ≡ class_of (range_classes (triples s at n)) x
  unfolding range_classes class_of find
  walking_end {i} k h = rw (triples_none s (at + 6 * i) n i h) at k.left

  -- the glyph stands after the range that is d after the first that is left, and so after those before it
  walking_far : (d : ℕ) {i : ℕ} → Walking s at n x i → i + d < n → word s (at + 6 * (i + d) + 2) < x → Walking s at n x (i + d + 1)
  walking_far zero {i} k h l =
      let e : i + 0 ≡ i = omega arith in
      rw e (walking_on k (omega arith) refl (rw e at l))
  walking_far (suc d) {i} k h l =
      let e : i + suc d ≡ i + 1 + d = omega arith in
      let after = rw e at l in
      rw e (walking_far d (walking_on k (omega arith) refl (omega (arith, end_rise k (omega arith) refl d (omega arith)))) (omega arith) after)

-- where the ranges before the r-th are passed, those from it on decide
walking_to : {s : List ℕ} {at n x : ℕ} → ranges_ascend 0 (triples s at n) ≡ true → (r : ℕ) → r ≤ n → Passed s at x r → Walking s at n x r
walking_to h zero l p = walking_all h
walking_to {s} {at} {n} {x} h (suc d) l p =
    let e : 0 + d + 1 ≡ suc d = omega arith in
    let f : at + 6 * (0 + d) + 2 ≡ at + 6 * d + 2 = omega arith in
    let after : word s (at + 6 * (0 + d) + 2) < x = rw f (p d (omega arith)) in
    rw e at (walking_far d (walking_all h) (omega arith) after)

-- the stretch that begins with the glyph x, if the r-th range is the first that ends there or later: there is none, it starts after the glyph, or it holds it
module _ {s : List ℕ} {at n x r : ℕ} (h : Ranges s at n) (k : Ended s at n x r) where
  -- the same ranges are passed for glyphs after x
  later : (y : ℕ) → x ≤ y → Passed s at y r
  later y l i e = omega (arith, k.passed i e)

  walk : (y : ℕ) → x ≤ y → Walking s at n y r
  walk y l = walking_to h.rise r k.within (later y l)

  pub ended_none : x < 65536 → n ≤ r → Ranged s at n x (record { last = 65535; class = 0; next = r })
  ended_none w l = record {
    stretch = record { holds = omega arith; end = omega arith; same = λ y g m. walking_end (walk y g) l; small = omega arith };
    within = k.within;
    passed = λ y g. later y (omega arith);
  }

  module _ {first : ℕ} (l : r < n) (f : first ≡ word s (at + 6 * r)) where
    pub ended_gap : first < 65536 → x < first → Ranged s at n x (record { last = first - 1; class = 0; next = r })
    ended_gap w g = record {
      stretch = record { holds = omega arith; end = omega arith; same = λ y a m. walking_before (walk y a) l refl f (omega arith); small = omega arith };
      within = k.within;
      passed = λ y m. later y (omega arith);
    }

    pub ended_in : {last c : ℕ} → first ≤ x → (last ≡ word s (at + 6 * r + 2)) × (last < 65536) → (c ≡ word s (at + 6 * r + 4)) × (c < 65536)
        → Ranged s at n x (record { last = last; class = c; next = r + 1 })
    ended_in g e c = record {
      stretch = record { holds = omega (arith, e.0, k.ends l); end = e.1; same = λ y a m. c.0 ∙ walking_in (walk y a) l e.0 f m (omega arith); small = c.1 };
      within = omega arith;
      passed = λ y m i q. let d : i ≡ r = omega arith in rw (d, ← e.0) m;
    }

-- what the search answers, where the range before the `from`-th ends before the glyph
pub range_ended : {s : List ℕ} {at n from x r : ℕ} → Passed s at x from → halving.Reached s (at + 2) 6 n from x r → Ended s at n x r
range_ended {s} {at} {n} {from} {x} {r} p h = record {
  within = h.most;
  passed = λ k e. step k e (dec_lt k from);
  ends = λ l. omega (arith, end_place s at r, h.above l);
}
  where
    step : (k : ℕ) → k + 1 ≡ r → Dec (k < from) → word s (at + 6 * k + 2) < x
    step k e (yes l) = p k (omega (arith, h.least))
    step k e (no l) = omega (arith, end_place s at k, h.below k (omega arith) (omega arith))

-- a null table lists no class
no_class : (s : List ℕ) {at : ℕ} (x : ℕ) → at ≡ 0 → 0 ≡ class_of (classes_at s at) x
unfolding class_of find
no_class s x h = rw (null_lists s h)

-- the stretch by the format of the table at `at`: a null one, an array, and ranges
module _ (s : List ℕ) {at x : ℕ} where
  pub found_null : at ≡ 0 → x < 65536 → Found s at x (record { last = 65535; class = 0; next = 0 })
  found_null z h = record {
    stretch = record { holds = omega arith; end = omega arith; same = λ y a b. no_class s y z; small = omega arith };
    hint = λ y l. record { ranges = λ n f. absurd (n z) };
  }

  module _ {format : ℕ} (z : at ≡ 0 → ⊥) (k : NullOrSound s at) (f : format ≡ word s at) where
    pub found_array : {r : Stretch} → format ≡ 1 → Stretched (array_at s at) x r → Found s at x r
    found_array e w = record { stretch = rw (by_array z k f e) w; hint = λ y l. record { ranges = λ n o. absurd (o (sym f ∙ e)) } }

    module _ {n : ℕ} (g : n ≡ word s (at + 2)) (e : format ≡ 1 → ⊥) where
      pub found_ranges : {r : Stretch} → Ranged s (at + 4) n x r → Found s at x r
      found_ranges w = record { stretch = rw (by_ranges z k f g e) w.stretch; hint = λ y l. record { ranges = λ a b. (rw g at w.within, w.passed y l) } }

      -- the search may begin with `next`
      pub ranges_ready : {next : ℕ} → Hint s at x next → Ranges s (at + 4) n × (next ≤ n) × Passed s (at + 4) x next
      ranges_ready h =
          let r = ranges_sound z k f g e in
          let p = h.ranges z (λ q. e (f ∙ q)) in
          (record { inside = r.0; rise = r.1 }, omega (arith, p.0), p.1)
