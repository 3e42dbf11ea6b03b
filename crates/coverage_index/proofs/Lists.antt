-- The index of a glyph among listed glyphs.
use Prim.Native.Nat.{ℕ, zero, suc, ◌+◌, ◌*◌, ◌≤◌, ◌<◌}
use mathlib.Core.Path.{◌≡◌, refl}
use mathlib.Core.Bool.{true}
use Rattle.std.specs.Prelude.{None, Some}
use mathlib.Core.List.{List, [], ◌∷◌}
use native.Mathlib.Decide.{dec_lt}
use native.Mathlib.Omega.{arith}
use lib.ListN.{length, get_or}
use borrow.Author.Tests.{eq-eqb, ne_eqb}
use Rattle.meaning.specs.Words.{word, words, ascends, bind}
use Rattle.laws.specs.Left.{words_length, words_at}
use Rattle.laws.specs.Ascends.{ascends_rest, ascends_rise}
use Rattle.halving.specs.Rising.{Reached}
use Rattle.halving.specs.Columns.{list_rising}
use Rattle.coverage_index.specs.Index.{index_of, SoundList}

-- the k-th of what ascends has the index k
index_hit : (l : List ℕ) (g k : ℕ) → ascends l ≡ true → k < length l → get_or l k 0 ≡ g → index_of l g ≡ Some k
unfolding index_of bind
index_hit [] g k h l e = absurd (omega arith)
index_hit (a ∷ r) g zero h l e = rw (eq-eqb a g e)
index_hit (a ∷ r) g (suc k) h l e =
    let first : a < get_or r k 0 = ascends_rise (a ∷ r) h 0 (suc k) (omega arith) l in
    rw (ne_eqb a g (omega arith), index_hit r g k (ascends_rest a r h) (omega arith) e)

-- what is not among them has none
index_miss : (l : List ℕ) (g : ℕ) → ((k : ℕ) → k < length l → get_or l k 0 ≡ g → ⊥) → index_of l g ≡ None
unfolding index_of bind
index_miss [] g h = refl
index_miss (a ∷ r) g h = rw (ne_eqb a g (h 0 (omega arith)), index_miss r g (λ k l. h (suc k) (omega arith)))

module _ {s : List ℕ} {at n g i : ℕ} (h : SoundList s at n) (k : Reached s at 2 n 0 g i) where
  -- the glyphs before the i-th are below the glyph; if the i-th is above it, or there is none, it is not among them
  gap : (i < n → g < word s (at + 2 * i)) → (j : ℕ) → j < length (words s at n) → get_or (words s at n) j 0 ≡ g → ⊥
  gap up j l e = step (dec_lt j i) (dec_lt i j)
    where
      here : word s (at + 2 * j) ≡ g
      here = omega (arith, e, words_at s at n j (omega (arith, l, words_length s at n)))

      step : Dec (j < i) → Dec (i < j) → ⊥
      step (yes a) b = omega (arith, here, k.below j (omega arith) a)
      step (no a) (yes b) = omega (arith, here, up (omega (arith, l, words_length s at n)), (list_rising s at n h.fits h.ascend).rise i j b (omega (arith, l, words_length s at n)))
      step (no a) (no b) =
          let q : j ≡ i = omega arith in
          let w : word s (at + 2 * i) ≡ g = rw q at here in
          omega (arith, w, up (omega (arith, l, words_length s at n)))

  -- the answer: no glyph is left, the i-th is above the glyph, or it is the glyph
  pub list_none : n ≤ i → None ≡ index_of (words s at n) g
  list_none l = rw (index_miss (words s at n) g (gap (λ a. absurd (omega arith))))

  module _ {here : ℕ} (l : i < n) (e : here ≡ word s (at + 2 * i)) where
    pub list_gap : g < here → None ≡ index_of (words s at n) g
    list_gap a = rw (index_miss (words s at n) g (gap (λ b. omega arith)))

    pub list_at : here ≤ g → Some i ≡ index_of (words s at n) g
    list_at a =
        let f : get_or (words s at n) i 0 ≡ g = omega (arith, words_at s at n i l, k.above l) in
        rw (index_hit (words s at n) g i h.ascend (omega (arith, words_length s at n)) f)
