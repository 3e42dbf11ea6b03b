-- What a sound coverage says, by its format: how many glyphs, and which one has an index.
use Prim.Native.Nat.{ℕ, zero, suc, ◌+◌, ◌-◌, ◌*◌, ◌≤◌, ◌<◌}
use mathlib.Core.Path.{◌≡◌, refl, sym, ap, ◌∙◌}
use mathlib.Core.Bool.{true}
use mathlib.Core.List.{List, [], ◌∷◌, ◌++◌}
use native.Mathlib.Omega.{arith}
use lib.ListN.{length, get_or, length-append}
use lib.Dec.{leb, eqb}
use borrow.Author.Tests.{leb-true, eqb-true, eq-eqb, ne_eqb}
use Rattle.meaning.specs.Words.{word, words, triples, inside, up_from}
use Rattle.meaning.specs.Parts.{span, range_glyphs, ranges_ascend, ranges_count, coverage, coverage_sound}
use Rattle.laws.specs.Runs.{both}
use Rattle.laws.specs.Left.{words_length, words_at}
use Rattle.coverage_glyphs.specs.Answers.{Counts, Gives, SoundRanges}

-- n bytes that lie inside, as a fact
inside_true : (s : List ℕ) (at n : ℕ) → inside s at n ≡ true → at + n ≤ length s
unfolding inside
inside_true s at n h = leb-true (at + n) (length s) h

module _ (s : List ℕ) (at : ℕ) where
  -- what the glyphs are, by the format
  pub covers_list : word s at ≡ 1 → coverage s at ≡ words s (at + 4) (word s (at + 2))
  unfolding coverage
  covers_list h = rw (eq-eqb _ _ h)

  pub covers_ranges : (word s at ≡ 1 → ⊥) → coverage s at ≡ range_glyphs (triples s (at + 4) (word s (at + 2)))
  unfolding coverage
  covers_ranges h = rw (ne_eqb _ _ h)

  module _ (h : coverage_sound s at ≡ true) where
    -- the header lies inside, and so does what follows it
    pub header_fits : at + 4 ≤ length s
    unfolding coverage_sound
    header_fits = inside_true s at 4 (both (inside s at 4) _ h).0

    pub list_fits : word s at ≡ 1 → at + 4 + 2 * word s (at + 2) ≤ length s
    unfolding coverage_sound
    list_fits f =
        let n = word s (at + 2) in
        inside_true s (at + 4) (2 * n) (both (inside s (at + 4) (2 * n)) _ (rw (eq-eqb _ _ f) at (both (inside s at 4) _ h).1)).0

    pub ranges_sound : (word s at ≡ 1 → ⊥) → SoundRanges s (at + 4) (word s (at + 2))
    unfolding coverage_sound
    ranges_sound f =
        let n = word s (at + 2) in
        let p = both (inside s (at + 4) (6 * n)) _ (both (eqb (word s at) 2) _ (rw (ne_eqb _ _ f) at (both (inside s at 4) _ h).1)).1 in
        let q = both (ranges_ascend 0 (triples s (at + 4) n)) _ p.1 in
        record { fits = inside_true s (at + 4) (6 * n) p.0; ascend = q.0; count = q.1 }

-- The number of glyphs.

from_length : (a n : ℕ) → length (up_from a n) ≡ n
unfolding up_from
from_length a zero = refl
from_length a (suc n) = ap suc (from_length (a + 1) n)

-- a range's glyphs, and those of the ranges after it
ranges_length : (a z x : ℕ) (r : List (ℕ × ℕ × ℕ)) → length (range_glyphs ((a, z, x) ∷ r)) ≡ z + 1 - a + length (range_glyphs r)
unfolding range_glyphs span
ranges_length a z x r = length-append (up_from a (z + 1 - a)) (range_glyphs r) ∙ ap (λ (n : ℕ). n + length (range_glyphs r)) (from_length a (z + 1 - a))

ranges_none : length (range_glyphs []) ≡ 0
unfolding range_glyphs
ranges_none = refl

-- the tests of the first range, as facts, and those of the others
record First (low before a z x : ℕ) (r : List (ℕ × ℕ × ℕ)) : Type 0 where
  start : low ≤ a
  order : a ≤ z
  index : x ≡ before
  ascend : ranges_ascend (z + 1) r ≡ true
  count : ranges_count (before + (z + 1 - a)) r ≡ true

ranges_first : (low before a z x : ℕ) (r : List (ℕ × ℕ × ℕ)) → ranges_ascend low ((a, z, x) ∷ r) ≡ true → ranges_count before ((a, z, x) ∷ r) ≡ true → First low before a z x r
unfolding ranges_ascend ranges_count
ranges_first low before a z x r h k =
    let p = both (leb low a) _ h in
    let q = both (leb a z) _ p.1 in
    let t = both (eqb x before) _ k in
    record { start = leb-true low a p.0; order = leb-true a z q.0; index = eqb-true x before t.0; ascend = q.1; count = t.1 }

-- The last of the ranges stands at p, and with it there are `total` glyphs.
record Last (s : List ℕ) (p total : ℕ) : Type 0 where
  sum : total ≡ word s (p + 4) + (word s (p + 2) + 1 - word s p)
  order : word s p ≤ word s (p + 2)
  low : word s (p + 4) ≤ word s p

ranges_last : (s : List ℕ) (n at low before : ℕ) → before ≤ low → ranges_ascend low (triples s at (suc n)) ≡ true → ranges_count before (triples s at (suc n)) ≡ true
    → Last s (at + 6 * n) (before + length (range_glyphs (triples s at (suc n))))
unfolding triples
ranges_last s zero at low before l h k =
    let f = ranges_first low before (word s at) (word s (at + 2)) (word s (at + 4)) [] h k in
    let e : at + 6 * 0 ≡ at = omega arith in
    rw e (record { sum = omega (arith, f.index, ranges_length (word s at) (word s (at + 2)) (word s (at + 4)) [], ranges_none); order = f.order; low = omega (arith, f.index, f.start) })
ranges_last s (suc n) at low before l h k =
    let f = ranges_first low before (word s at) (word s (at + 2)) (word s (at + 4)) (triples s (at + 6) (suc n)) h k in
    let e : at + 6 * suc n ≡ at + 6 + 6 * n = omega arith in
    let r = ranges_last s n (at + 6) (word s (at + 2) + 1) (before + (word s (at + 2) + 1 - word s at)) (omega (arith, f.start, f.order)) f.ascend f.count in
    let t : before + length (range_glyphs (triples s at (suc (suc n)))) ≡ before + (word s (at + 2) + 1 - word s at) + length (range_glyphs (triples s (at + 6) (suc n))) =
    omega (arith, ranges_length (word s at) (word s (at + 2)) (word s (at + 4)) (triples s (at + 6) (suc n)))
    in
    rw (e, t) r

module _ (s : List ℕ) (at n : ℕ) where
  -- no range, no glyph
  pub counts_none : n ≡ 0 → Counts (range_glyphs (triples s at n)) 0
  unfolding triples
  counts_none h = record { number = rw h (sym ranges_none); small = omega arith }

  module _ {a z x : ℕ} (k : SoundRanges s at n) (h : n ≡ 0 → ⊥)
      (ea : a ≡ word s (at + 6 * (n - 1))) (ez : (z ≡ word s (at + 6 * (n - 1) + 2)) × (z < 65536)) (ex : x ≡ word s (at + 6 * (n - 1) + 4)) where
    last : Last s (at + 6 * (n - 1)) (0 + length (range_glyphs (triples s at n)))
    last =
        let e : n ≡ suc (n - 1) = omega arith in
        let ascend = ap (λ (m : ℕ). ranges_ascend 0 (triples s at m)) (sym e) ∙ k.ascend in
        let count = ap (λ (m : ℕ). ranges_count 0 (triples s at m)) (sym e) ∙ k.count in
        rw (← e) at (ranges_last s (n - 1) at 0 0 (omega arith) ascend count)

    pub last_order : a ≤ z
    last_order = omega (arith, last.order)

    -- the index of the last range and its own glyphs are all
    pub counts_last : Counts (range_glyphs (triples s at n)) (x + (z + 1 - a))
    counts_last = record { number = omega (arith, last.sum); small = omega (arith, last.order, last.low) }

-- The glyph of an index.

-- numbers from a on, before others: those of the run, and those after it
from_at : (a n : ℕ) (r : List ℕ) (i : ℕ) → i < n → get_or (up_from a n ++ r) i 0 ≡ a + i
unfolding up_from
from_at a zero r i h = absurd (omega arith)
from_at a (suc n) r zero h = omega arith
from_at a (suc n) r (suc i) h = omega (arith, from_at (a + 1) n r i (omega arith))

from_past : (a n : ℕ) (r : List ℕ) (i : ℕ) → n ≤ i → get_or (up_from a n ++ r) i 0 ≡ get_or r (i - n) 0
unfolding up_from
from_past a zero r i h =
    let e : i - 0 ≡ i = omega arith in
    rw e
from_past a (suc n) r zero h = absurd (omega arith)
from_past a (suc n) r (suc i) h =
    let e : suc i - suc n ≡ i - n = omega arith in
    rw e (from_past (a + 1) n r i (omega arith))

-- The range at p holds the index i, and `glyph` is what has the index.
record Holds (s : List ℕ) (p i glyph : ℕ) : Type 0 where
  order : word s p ≤ word s (p + 2)
  held : i - word s (p + 4) < word s (p + 2) + 1 - word s p
  place : glyph ≡ word s p + (i - word s (p + 4))

-- the first of ranges that are sound holds an index that is below that of the next one, if there is one
first_holds : (s : List ℕ) (n at low before i : ℕ) → ranges_ascend low (triples s at (suc n)) ≡ true → ranges_count before (triples s at (suc n)) ≡ true
    → before ≤ i → i < before + length (range_glyphs (triples s at (suc n))) → (0 < n → i < word s (at + 6 + 4))
    → Holds s at i (get_or (range_glyphs (triples s at (suc n))) (i - before) 0)
unfolding triples range_glyphs span
first_holds s n at low before i h k l t u =
    let a = word s at in
    let z = word s (at + 2) in
    let x = word s (at + 4) in
    let f = ranges_first low before a z x (triples s (at + 6) n) h k in
    let size : i - before < z + 1 - a = next n f.ascend f.count t u in
    record { order = f.order; held = omega (arith, f.index); place = from_at a (z + 1 - a) _ (i - before) size ∙ omega (arith, f.index) }
  where
    next : (n : ℕ) → ranges_ascend (word s (at + 2) + 1) (triples s (at + 6) n) ≡ true → ranges_count (before + (word s (at + 2) + 1 - word s at)) (triples s (at + 6) n) ≡ true
        → i < before + length (range_glyphs (triples s at (suc n))) → (0 < n → i < word s (at + 6 + 4)) → i - before < word s (at + 2) + 1 - word s at
    next zero h k t u = omega (arith, ranges_length (word s at) (word s (at + 2)) (word s (at + 4)) [], ranges_none)
    next (suc n) h k t u =
        let p = at + 6 in
        let f = ranges_first (word s (at + 2) + 1) (before + (word s (at + 2) + 1 - word s at)) (word s p) (word s (p + 2)) (word s (p + 4)) (triples s (p + 6) n) h k in
        omega (arith, f.index, u (omega arith))

-- no range's index is below that of the first one
index_least : (s : List ℕ) (k n at low before : ℕ) → k < n → ranges_ascend low (triples s at n) ≡ true → ranges_count before (triples s at n) ≡ true
    → before ≤ word s (at + 6 * k + 4)
unfolding triples
index_least s k zero at low before d h c = absurd (omega arith)
index_least s zero (suc n) at low before d h c =
    let e : at + 6 * 0 + 4 ≡ at + 4 = omega arith in
    rw e (omega (arith, (ranges_first low before (word s at) (word s (at + 2)) (word s (at + 4)) (triples s (at + 6) n) h c).index))
index_least s (suc k) (suc n) at low before d h c =
    let e : at + 6 * suc k ≡ at + 6 + 6 * k = omega arith in
    let f = ranges_first low before (word s at) (word s (at + 2)) (word s (at + 4)) (triples s (at + 6) n) h c in
    rw e (omega (arith, index_least s k n (at + 6) (word s (at + 2) + 1) (before + (word s (at + 2) + 1 - word s at)) (omega arith) f.ascend f.count))

-- the k-th holds an index that is not below its own and below that of the next one
kth_holds : (s : List ℕ) (k n at low before i : ℕ) → k < n → ranges_ascend low (triples s at n) ≡ true → ranges_count before (triples s at n) ≡ true
    → word s (at + 6 * k + 4) ≤ i → i < before + length (range_glyphs (triples s at n)) → (k + 1 < n → i < word s (at + 6 * (k + 1) + 4))
    → Holds s (at + 6 * k) i (get_or (range_glyphs (triples s at n)) (i - before) 0)
unfolding triples range_glyphs span
kth_holds s k zero at low before i d h c l t u = absurd (omega arith)
kth_holds s zero (suc n) at low before i d h c l t u =
    let e : at + 6 * 0 ≡ at = omega arith in
    let f : at + 6 * (0 + 1) ≡ at + 6 = omega arith in
    let g = index_least s 0 (suc n) at low before (omega arith) h c in
    rw e (first_holds s n at low before i h c (omega arith) t (λ m. rw f at (u (omega arith))))
kth_holds s (suc k) (suc n) at low before i d h c l t u =
    let a = word s at in
    let z = word s (at + 2) in
    let e : at + 6 * suc k ≡ at + 6 + 6 * k = omega arith in
    let e' : at + 6 * (suc k + 1) ≡ at + 6 + 6 * (k + 1) = omega arith in
    let f = ranges_first low before a z (word s (at + 4)) (triples s (at + 6) n) h c in
    let past : before + (z + 1 - a) ≤ i = omega (arith, rw e at l, index_least s k n (at + 6) (z + 1) (before + (z + 1 - a)) (omega arith) f.ascend f.count) in
    let left : i - before - (z + 1 - a) ≡ i - (before + (z + 1 - a)) = omega arith in
    let total = ranges_length a z (word s (at + 4)) (triples s (at + 6) n) in
    rw (e, from_past a (z + 1 - a) (range_glyphs (triples s (at + 6) n)) (i - before) (omega arith), left)
    (kth_holds s k n (at + 6) (z + 1) (before + (z + 1 - a)) i (omega arith) f.ascend f.count (rw e at l) (omega arith) (λ m. rw e' at (u (omega arith))))

-- a word of bytes
word_small : (s : List ℕ) → ((j : ℕ) → get_or s j 0 < 256) → (p : ℕ) → word s p < 65536
unfolding word
word_small s b p = omega (arith, b p, b (p + 1))

-- What the halving of `range_glyph` keeps: of the ranges, the one at lo has an index that is at most i, and the one at hi, if it is one, a greater one.
pub record Seeking (s : List ℕ) (at n i lo hi : ℕ) : Type 0 where
  pub sound : SoundRanges s at n
  pub some : i < length (range_glyphs (triples s at n))
  pub order : lo < hi
  pub within : hi ≤ n
  pub from : word s (at + 6 * lo + 4) ≤ i
  pub upto : hi < n → i < word s (at + 6 * hi + 4)

module _ {s : List ℕ} {at n i : ℕ} where
  pub seeking_all : SoundRanges s at n × (i < length (range_glyphs (triples s at n))) → Seeking s at n i 0 n
  unfolding triples
  seeking_all h = start n h.0 h.1
    where
      start : (n : ℕ) → SoundRanges s at n → i < length (range_glyphs (triples s at n)) → Seeking s at n i 0 n
      start zero h l = absurd (omega (arith, ranges_none))
      start (suc n) h l =
          let e : at + 6 * 0 + 4 ≡ at + 4 = omega arith in
          let f = ranges_first 0 0 (word s at) (word s (at + 2)) (word s (at + 4)) (triples s (at + 6) n) h.ascend h.count in
          record { sound = h; some = l; order = omega arith; within = omega arith; from = rw e (omega (arith, f.index)); upto = λ m. absurd (omega arith) }

  module _ {lo hi x : ℕ} (mid : ℕ) (k : Seeking s at n i lo hi) (l : lo < mid) (h : mid < hi) (e : x ≡ word s (at + 6 * mid + 4)) where
    pub seeking_up : x ≤ i → Seeking s at n i mid hi
    seeking_up g = record { sound = k.sound; some = k.some; order = h; within = k.within; from = omega arith; upto = k.upto }

    pub seeking_down : i < x → Seeking s at n i lo mid
    seeking_down g = record { sound = k.sound; some = k.some; order = l; within = omega (arith, k.within); from = k.from; upto = λ m. omega arith }

  -- where nothing is left between the two, the range at lo holds the index
  module _ {lo hi : ℕ} (k : Seeking s at n i lo hi) (h : hi ≤ lo + 1) where
    found : Holds s (at + 6 * lo) i (get_or (range_glyphs (triples s at n)) i 0)
    found =
        let e : hi ≡ lo + 1 = omega (arith, k.order) in
        let d : i - 0 ≡ i = omega arith in
        rw d at (kth_holds s lo n at 0 0 i (omega (arith, k.order, k.within)) k.sound.ascend k.sound.count k.from (omega (arith, k.some)) (rw e at k.upto))

    pub seeking_end : {x a : ℕ} → x ≡ word s (at + 6 * lo + 4) → a ≡ word s (at + 6 * lo) → ((j : ℕ) → get_or s j 0 < 256) → Gives (range_glyphs (triples s at n)) i (a + (i - x))
    seeking_end e f b = record { glyph = rw (e, f) (sym found.place); small = omega (arith, found.order, found.held, word_small s b (at + 6 * lo + 2)) }

-- The whole coverage, by its format.

module _ (s : List ℕ) (at : ℕ) where
  pub count_list : {n : ℕ} → (n ≡ word s (at + 2)) × (n < 65536) → word s at ≡ 1 → Counts (coverage s at) n
  count_list e f = record { number = rw (covers_list s at f, words_length s (at + 4) (word s (at + 2))) e.0; small = omega arith }

  pub count_ranges : {n r : ℕ} → n ≡ word s (at + 2) → (word s at ≡ 1 → ⊥) → Counts (range_glyphs (triples s (at + 4) n)) r → Counts (coverage s at) r
  count_ranges e f k = rw (covers_ranges s at f, ← e) k

  list_index : {i : ℕ} → i < length (coverage s at) → word s at ≡ 1 → i < word s (at + 2)
  list_index h f = rw (covers_list s at f, words_length s (at + 4) (word s (at + 2))) at h

  -- the word of an index lies inside
  pub glyph_fits : {i : ℕ} → (coverage_sound s at ≡ true) × (i < length (coverage s at)) → word s at ≡ 1 → at + 4 + 2 * i < length s
  glyph_fits h f = omega (arith, list_fits s at h.0 f, list_index h.1 f)

  pub give_list : {i r : ℕ} → i < length (coverage s at) → word s at ≡ 1 → (r ≡ word s (at + 4 + 2 * i)) × (r < 65536) → Gives (coverage s at) i r
  give_list {i} h f e = record { glyph = rw (covers_list s at f, words_at s (at + 4) (word s (at + 2)) i (list_index h f)) e.0; small = e.1 }

  -- an index of a glyph is one among the ranges' glyphs
  pub range_index : {n i : ℕ} → n ≡ word s (at + 2) → (word s at ≡ 1 → ⊥) → i < length (coverage s at) → i < length (range_glyphs (triples s (at + 4) n))
  range_index e f h = rw (covers_ranges s at f, ← e) at h

  pub give_ranges : {n i r : ℕ} → n ≡ word s (at + 2) → (word s at ≡ 1 → ⊥) → Gives (range_glyphs (triples s (at + 4) n)) i r → Gives (coverage s at) i r
  give_ranges e f k = rw (covers_ranges s at f, ← e) k
