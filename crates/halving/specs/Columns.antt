-- What is searched: glyphs of a list, old numbers of a map, and the last glyphs of ranges. Where they ascend, they rise.
use Rattle.std.specs.Prelude.{ℕ, zero, suc, ◌+◌, ◌*◌, ◌/◌, ◌≤◌, ◌<◌, ◌≡◌, true, List, length, leb}
use Rattle.std.proofs.Common.{zero-add, arith}
use borrow.Author.Tests.{leb-true}
use Rattle.meaning.specs.Words.{word, words, triples, keys, ascends}
use Rattle.meaning.specs.Maps.{map_entries}
use Rattle.meaning.specs.Parts.{ranges_ascend}
use Rattle.laws.specs.Runs.{both}
use Rattle.laws.specs.Left.{words_length, words_at}
use Rattle.laws.specs.Ascends.{ascends_rise, map_length, map_key}
use Rattle.halving.specs.Rising.{Rising}

-- glyphs that are listed
pub list_rising : (s : List ℕ) (at n : ℕ) → at + 2 * n ≤ length s → ascends (words s at n) ≡ true → Rising s at 2 n
list_rising s at n h up = record {
  few = omega arith;
  inside = λ k l. omega arith;
  rise = λ p q l g. omega (arith, words_at s at n p (omega arith), words_at s at n q g, ascends_rise (words s at n) up p q l (omega (arith, words_length s at n)));
}

-- old numbers of a map
pub map_rising : (m : List ℕ) → ascends (keys (map_entries m)) ≡ true → Rising m 0 4 (length m / 4)
map_rising m up = record {
  few = omega arith;
  inside = λ k l. omega arith;
  rise = λ p q l g. rw (zero-add (4 * p), zero-add (4 * q)) (omega (arith, map_key m p (omega arith), map_key m q g, ascends_rise (keys (map_entries m)) up p q l (omega (arith, map_length m))));
}

-- the first of ranges that ascend, and the others
pub record FirstRange (s : List ℕ) (at n low : ℕ) : Type 0 where
  pub start : low ≤ word s at
  pub order : word s at ≤ word s (at + 2)
  pub others : ranges_ascend (word s (at + 2) + 1) (triples s (at + 6) n) ≡ true

module _ (s : List ℕ) where
  pub first_range : (at n low : ℕ) → ranges_ascend low (triples s at (suc n)) ≡ true → FirstRange s at n low
  unfolding triples ranges_ascend
  first_range at n low h =
      let p = both (leb low (word s at)) _ h in
      let q = both (leb (word s at) (word s (at + 2))) _ p.1 in
      record { start = leb-true low (word s at) p.0; order = leb-true (word s at) (word s (at + 2)) q.0; others = q.1 }

  -- ranges that ascend from `low` on begin there or later, and end where they begin or later
  pub ranges_least : (k n at low : ℕ) → k < n → ranges_ascend low (triples s at n) ≡ true → (low ≤ word s (at + 6 * k)) × (word s (at + 6 * k) ≤ word s (at + 6 * k + 2))
  ranges_least k zero at low l h = absurd (omega arith)
  ranges_least zero (suc n) at low l h =
      let e : at + 6 * 0 ≡ at = omega arith in
      let f = first_range at n low h in
      rw e (f.start, f.order)
  ranges_least (suc k) (suc n) at low l h =
      let e : at + 6 * suc k ≡ at + 6 + 6 * k = omega arith in
      let f = first_range at n low h in
      let i = ranges_least k n (at + 6) (word s (at + 2) + 1) (omega arith) f.others in
      rw e (omega (arith, f.start, f.order, i.0), i.1)

  -- a later one begins after an earlier one ends
  pub ranges_apart : (p q n at low : ℕ) → p < q → q < n → ranges_ascend low (triples s at n) ≡ true → word s (at + 6 * p + 2) < word s (at + 6 * q)
  ranges_apart p zero n at low l g h = absurd (omega arith)
  ranges_apart p (suc q) zero at low l g h = absurd (omega arith)
  ranges_apart zero (suc q) (suc n) at low l g h =
      let e : at + 6 * 0 ≡ at = omega arith in
      let d : at + 6 * suc q ≡ at + 6 + 6 * q = omega arith in
      rw (e, d) (omega (arith, (ranges_least q n (at + 6) (word s (at + 2) + 1) (omega arith) (first_range at n low h).others).0))
  ranges_apart (suc p) (suc q) (suc n) at low l g h =
      let e : at + 6 * suc p ≡ at + 6 + 6 * p = omega arith in
      let d : at + 6 * suc q ≡ at + 6 + 6 * q = omega arith in
      rw (e, d) (ranges_apart p q n (at + 6) (word s (at + 2) + 1) (omega arith) (omega arith) (first_range at n low h).others)

  -- the place of a range's last glyph, as the search counts it
  pub end_place : (at k : ℕ) → word s (at + 2 + 6 * k) ≡ word s (at + 6 * k + 2)
  end_place at k =
      let e : at + 2 + 6 * k ≡ at + 6 * k + 2 = omega arith in
      rw e

  -- last glyphs of ranges
  pub ends_rising : (at n : ℕ) → at + 6 * n ≤ length s → ranges_ascend 0 (triples s at n) ≡ true → Rising s (at + 2) 6 n
  ends_rising at n h up = record {
    few = omega arith;
    inside = λ k l. omega arith;
    rise = λ p q l g. omega (arith, end_place at p, end_place at q, ranges_apart p q n at 0 l g up, (ranges_least q n at 0 g up).1);
  }
