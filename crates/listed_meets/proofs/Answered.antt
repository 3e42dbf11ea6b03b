-- A search for the first listed glyph that a map has: what the loop keeps, and each way through its turn.
use Prim.Native.Nat.{ℕ, ◌+◌, ◌-◌, ◌*◌, ◌/◌, ◌%◌, ◌≤◌, ◌<◌}
use mathlib.Core.Path.{◌≡◌, sym, ap, ◌∙◌}
use mathlib.Core.Bool.{true, false}
use Rattle.std.specs.Prelude.{None, Some}
use mathlib.Core.List.{List, ◌∷◌}
use native.Mathlib.Omega.{arith}
use Rattle.meaning.specs.Words.{word, words, is_some}
use Rattle.laws.specs.Left.{words_left_lem, words_all, words_none}
use Rattle.cell_maps.specs.Cells.{cell_entry, folded, answer_in, answer_own, answer_other}
use Rattle.cell_maps.specs.declared.Map.{Map}
use Rattle.listed_meets.specs.Answered.{answered}

-- What the loop over listed glyphs keeps: those that are left settle it.
pub record Listing (t : List ℕ) (m : Map) (s : List ℕ) (at n i : ℕ) : Type 0 where
  pub within : i ≤ n
  pub left : answered (folded t m) (words s (at + 2 * i) (n - i)) ≡ answered (folded t m) (words s at n)

module _ {t : List ℕ} {m : Map} {s : List ℕ} {at n : ℕ} where
  pub listing_all : Listing t m s at n 0
  listing_all = record { within = omega arith; left = rw (words_all s at n) }

  module _ {i glyph e : ℕ} (c : Listing t m s at n i) (h : i < n) (w : glyph ≡ word s (at + 2 * i)) (f : e ≡ cell_entry t m glyph) where
    from_here : answered (folded t m) (glyph ∷ words s (at + 2 * (i + 1)) (n - (i + 1))) ≡ answered (folded t m) (words s at n)
    from_here = rw (words_left_lem s at n i h, ← w) at c.left

    -- the map has the glyph, or it has not
    pub listing_hit : e / 65536 ≡ glyph → true ≡ answered (folded t m) (words s at n)
    unfolding answered is_some
    listing_hit g =
        let o : folded t m glyph ≡ Some (e % 65536) = ap (λ (x : ℕ). answer_in x glyph) (sym f) ∙ answer_own e glyph g in
        rw o at from_here

    pub listing_turn : (e / 65536 ≡ glyph → ⊥) → Listing t m s at n (i + 1)
    unfolding answered is_some
    listing_turn g =
        let o : folded t m glyph ≡ None = ap (λ (x : ℕ). answer_in x glyph) (sym f) ∙ answer_other e glyph g in
        record { within = omega arith; left = rw o at from_here }

  pub listing_end : {i : ℕ} → Listing t m s at n i → n ≤ i → false ≡ answered (folded t m) (words s at n)
  unfolding answered
  listing_end {i} c h = rw (words_none s (at + 2 * i) n i h) at c.left
