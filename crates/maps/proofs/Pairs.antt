-- Good pairs: what the loop over them keeps.
use Prim.Native.Nat.{ℕ, ◌+◌, ◌-◌, ◌*◌, ◌/◌, ◌%◌, ◌≤◌, ◌<◌}
use mathlib.Core.Path.{◌≡◌, refl, sym, ap, ap₂, ◌∙◌}
use mathlib.Core.Bool.{Bool, true, false, ◌&&◌}
use mathlib.Core.List.{List, [], ◌∷◌}
use native.Mathlib.Decide.{dec_lt}
use native.Mathlib.Nat.{zero-add}
use native.Mathlib.Omega.{arith}
use lib.ListN.{length}
use lib.Dec.{leb, ltb}
use borrow.Author.Tests.{eq-eqb, ne_eqb, le-leb, lt-leb, lt-ltb, le-ltb}
use Rattle.meaning.specs.Words.{word, entries, ascends, keys, values}
use Rattle.meaning.specs.Maps.{map_entries, good_glyphs}
use Rattle.laws.specs.Left.{entries_left, entries_all, entries_none}

-- numbers that ascend strictly from low on
unfoldable rises : ℕ → List ℕ → Bool
rises low [] = true
rises low (a ∷ r) = leb low a && rises (a + 1) r

-- entries whose old numbers ascend so from low on, and whose new ones from least on
unfoldable pub pairs_rise : ℕ → ℕ → List (ℕ × ℕ) → Bool
pairs_rise low least [] = true
pairs_rise low least (e ∷ r) = leb low e.0 && (leb least e.1 && pairs_rise (e.0 + 1) (e.1 + 1) r)

above : (a b : ℕ) → leb (a + 1) b ≡ ltb a b
above a b = step (dec_lt a b)
  where
    step : Dec (a < b) → leb (a + 1) b ≡ ltb a b
    step (yes h) = le-leb (a + 1) b (omega arith) ∙ sym (lt-ltb a b h)
    step (no h) = lt-leb (a + 1) b (omega arith) ∙ sym (le-ltb a b (omega arith))

rises_after : (a : ℕ) (r : List ℕ) → rises (a + 1) r ≡ ascends (a ∷ r)
unfolding rises ascends
rises_after a [] = refl
rises_after a (b ∷ r) = ap₂ ◌&&◌ (above a b) (rises_after b r)

rises_all : (l : List ℕ) → rises 0 l ≡ ascends l
unfolding rises ascends
rises_all [] = refl
rises_all (a ∷ r) = rw (le-leb 0 a (omega arith)) (rises_after a r)

-- both columns apart
columns_rise : (low least : ℕ) (es : List (ℕ × ℕ)) → pairs_rise low least es ≡ rises low (keys es) && rises least (values es)
unfolding pairs_rise rises keys values
columns_rise low least [] = refl
columns_rise low least (e ∷ r) = rw (columns_rise (e.0 + 1) (e.1 + 1) r) (step (leb low e.0) (leb least e.1) (rises (e.0 + 1) (keys r)))
  where
    step : (a b c : Bool) → a && (b && (c && rises (e.1 + 1) (values r))) ≡ (a && c) && (b && rises (e.1 + 1) (values r))
    step false b c = refl
    step true false false = refl
    step true false true = refl
    step true true c = refl

both_ascend : (es : List (ℕ × ℕ)) → pairs_rise 0 0 es ≡ ascends (keys es) && ascends (values es)
both_ascend es = columns_rise 0 0 es ∙ ap₂ ◌&&◌ (rises_all (keys es)) (rises_all (values es))

-- What the loop keeps: the answer for the entries that are left is the whole answer.
pub record Climbing (m : List ℕ) (low least i : ℕ) : Type 0 where
  pub within : i ≤ length m / 4
  pub left : pairs_rise low least (entries m (4 * i) (length m / 4 - i)) ≡ pairs_rise 0 0 (map_entries m)

-- whole entries are good if they rise
good_whole : (m : List ℕ) → length m % 4 ≡ 0 → pairs_rise 0 0 (map_entries m) ≡ good_glyphs m
unfolding good_glyphs
good_whole m z = rw (eq-eqb (length m % 4) 0 z) (both_ascend (map_entries m))

module _ {m : List ℕ} where
  pub climbing_all : Climbing m 0 0 0
  unfolding map_entries
  climbing_all = record { within = omega arith; left = ap (pairs_rise 0 0) (entries_all m 0 (length m / 4)) }

  module _ {low least i o w : ℕ} (k : Climbing m low least i) (h : i < length m / 4) (eo : o ≡ word m (4 * i)) (ew : w ≡ word m (4 * i + 2)) where
    turn : leb low o && (leb least w && pairs_rise (o + 1) (w + 1) (entries m (4 * (i + 1)) (length m / 4 - (i + 1)))) ≡ pairs_rise 0 0 (map_entries m)
    unfolding pairs_rise
    turn =
        let e = rw (zero-add (4 * i), zero-add (4 * (i + 1))) at (entries_left m 0 (length m / 4) i h) in
        rw (eo, ew) (ap (pairs_rise low least) (sym e) ∙ k.left)

    pub climbing_turn : low ≤ o → least ≤ w → Climbing m (o + 1) (w + 1) (i + 1)
    climbing_turn a b = record { within = omega arith; left = rw (le-leb low o a, le-leb least w b) at turn }

    -- an entry that does not ascend settles it
    pub old_falls : length m % 4 ≡ 0 → o < low → false ≡ good_glyphs m
    old_falls z f = rw (lt-leb low o f) at turn ∙ good_whole m z

    pub new_falls : length m % 4 ≡ 0 → low ≤ o → w < least → false ≡ good_glyphs m
    new_falls z a f = rw (le-leb low o a, lt-leb least w f) at turn ∙ good_whole m z

  pub climbing_end : {low least i : ℕ} → Climbing m low least i → length m / 4 ≤ i → length m % 4 ≡ 0 → true ≡ good_glyphs m
  unfolding pairs_rise
  climbing_end {i = i} k h z = rw (entries_none m (4 * i) (length m / 4) i h) at k.left ∙ good_whole m z

pub pairs_broken : (m : List ℕ) → (length m % 4 ≡ 0 → ⊥) → false ≡ good_glyphs m
unfolding good_glyphs
pairs_broken m h = rw (ne_eqb (length m % 4) 0 h)
