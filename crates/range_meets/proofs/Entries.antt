-- The entries of a glyph map, whose old numbers ascend: found by halving, and passed over where they lie below a coverage.
use Prim.Native.Nat.{ℕ, zero, suc, ◌+◌, ◌*◌, ◌/◌, ◌≤◌, ◌<◌}
use mathlib.Core.Path.{◌≡◌, refl, ap, ◌∙◌}
use mathlib.Core.Bool.{true}
use Rattle.std.specs.Prelude.{None}
use mathlib.Core.List.{List, [], ◌∷◌}
use native.Mathlib.Decide.{dec_lt}
use native.Mathlib.Nat.{zero-add}
use native.Mathlib.Omega.{arith}
use lib.ListN.{length}
use borrow.Author.Tests.{ne_eqb}
use Rattle.meaning.specs.Words.{word, keys, find, ascends}
use Rattle.meaning.specs.Maps.{map_entries}
use Rattle.laws.specs.Stands.{All}
use Rattle.laws.specs.Runs.{Up}
use Rattle.laws.specs.Left.{entries_left, entries_all, entries_none}
use Rattle.laws.specs.Ascends.{ascends_rest, ascends_rise, map_length, map_key}
use Rattle.laws.specs.SoundGood.{ascends_up}
use Rattle.halving.specs.Rising as halving
use Rattle.range_meets.specs.Met.{met, entry_below}
use Rattle.range_meets.specs.Walks.{rest, Reached}

-- no entry is below the lowest
pub find_below : (b low : ℕ) (es : List (ℕ × ℕ)) → b < low → Up low (keys es) → find es b ≡ None
unfolding find keys
find_below b low [] h u = refl
find_below b low ((o, v) ∷ es) h u = rw (ne_eqb o b (omega (arith, u.0))) (find_below b (o + 1) es (omega (arith, u.0)) u.1)

module _ (m : List ℕ) where
  -- the first of the entries that are left, none at the end, and all at the start
  pub rest_cons : (e : ℕ) → e < length m / 4 → rest m e ≡ (word m (4 * e), word m (4 * e + 2)) ∷ rest m (e + 1)
  rest_cons e h = entries_left m 0 (length m / 4) e h ∙ ap (λ (k : ℕ). (word m k, word m (k + 2)) ∷ rest m (e + 1)) (zero-add (4 * e))

  pub rest_end : (e : ℕ) → length m / 4 ≤ e → rest m e ≡ []
  rest_end e h = entries_none m (0 + 4 * e) (length m / 4) e h

  pub rest_all : rest m 0 ≡ map_entries m
  unfolding map_entries
  rest_all = entries_all m 0 (length m / 4)

  -- passing over entries below each glyph of a coverage
  pub skip_entries : (v d e f i : ℕ) (cov : List ℕ) → f ≡ e + d → f ≤ length m / 4 → ((k : ℕ) → e ≤ k → k < f → word m (4 * k) < v) → All (λ c. v ≤ c) cov
      → met (find (rest m e)) i cov ≡ met (find (rest m f)) i cov
  skip_entries v zero e f i cov q l b h =
      let z : f ≡ e = omega arith in
      rw z
  skip_entries v (suc d) e f i cov q l b h =
      let n = b e (omega arith) (omega arith) in
      rw (rest_cons e (omega arith)) (entry_below (word m (4 * e)) (word m (4 * e + 2)) (rest m (e + 1)) i cov (above n cov h)
      ∙ skip_entries v d (e + 1) f i cov (omega arith) l (λ k g j. b k (omega arith) j) h)
    where
      above : word m (4 * e) < v → (l : List ℕ) → All (λ c. v ≤ c) l → All (λ c. word m (4 * e) < c) l
      above n [] h = tt
      above n (c ∷ l) h = (omega (arith, h.0), above n l h.1)

module _ (m : List ℕ) (good : ascends (keys (map_entries m)) ≡ true) where
  -- a later entry has a greater number
  pub map_rises : (p q : ℕ) → p < q → q < length m / 4 → word m (4 * p) < word m (4 * q)
  map_rises p q l h = omega (arith, map_key m p (omega arith), map_key m q h, ascends_rise (keys (map_entries m)) good p q l (omega (arith, map_length m)))

  rest_ascends : (e : ℕ) → e ≤ length m / 4 → ascends (keys (rest m e)) ≡ true
  unfolding keys
  rest_ascends zero h = rw (rest_all m) good
  rest_ascends (suc e) h =
      let a : ascends (word m (4 * e) ∷ keys (rest m (e + 1))) ≡ true = rw (rest_cons m e (omega arith)) at (rest_ascends e (omega arith)) in
      let q : suc e ≡ e + 1 = omega arith in
      rw q (ascends_rest (word m (4 * e)) (keys (rest m (e + 1))) a)

  -- the entries that are left ascend, from any number on that is not above the first of them
  pub rest_up : (e low : ℕ) → e ≤ length m / 4 → (e < length m / 4 → low ≤ word m (4 * e)) → Up low (keys (rest m e))
  unfolding keys
  rest_up e low h l = step (dec_lt e (length m / 4))
    where
      step : Dec (e < length m / 4) → Up low (keys (rest m e))
      step (yes g) =
          let a : ascends (word m (4 * e) ∷ keys (rest m (e + 1))) ≡ true = rw (rest_cons m e g) at (rest_ascends e h) in
          let u = ascends_up (word m (4 * e)) (word m (4 * e) ∷ keys (rest m (e + 1))) a (λ x r q. let same : word m (4 * e) ≡ x = cc in omega arith) in
          rw (rest_cons m e g) (l g, u.1)
      step (no g) = rw (rest_end m e (omega arith)) tt

module _ {m : List ℕ} {from v r : ℕ} where
  -- what the search in the map answers
  pub map_reached : halving.Reached m 0 4 (length m / 4) from v r → Reached m from v r
  map_reached h = record {
    least = h.least;
    most = h.most;
    below = λ k l g. rw zero-add at (h.below k l g);
    above = λ l. rw zero-add at (h.above l);
  }
