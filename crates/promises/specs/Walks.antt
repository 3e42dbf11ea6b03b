-- Pairs along a string: as shapers go, pair by pair, the second glyph of a pair that is found under a nonzero second format is skipped, so that the next pair begins after it.
-- What is left of a pair table finds the same pairs at the same places, with equal adjustments.
use Rattle.std.specs.Prelude.{ℕ, ◌+◌, ◌≡◌, refl, Bool, true, false, cond, not, List, [], ◌∷◌, map, replicate, eqb, ℤ, pos, Option, None, Some}
use Rattle.std.proofs.Common.{ap, subst}
use Rattle.meaning.specs.Words.{word, bytes2, flat}
use Rattle.meaning.specs.Tables.{Table, pair_table, table}
use Rattle.meaning.specs.Cut.{cut}
use Rattle.meaning.specs.Subset.{left, subset}
use Rattle.meaning.specs.Matching.{Move, adjust, second_format}
use Rattle.laws.specs.Through.{Opt}
use Rattle.promises.specs.Strings.{All, Retained, new}
use Rattle.promises.specs.Pairs.{second_left}
use Rattle.promises.specs.ClassPairs as ClassPairs

-- a pair table has a nonzero second format
abbrev pub skipping : Table → Bool
skipping t = not (eqb (second_format t) 0)

-- the pairs found from place i on: the one at i, if it is found, and then those from its second glyph on, or, if that is skipped, those after it
unfoldable pub found_at : ℕ → Option (Move × Move) → Bool → List (ℕ × (Move × Move)) → List (ℕ × (Move × Move)) → List (ℕ × (Move × Move))
found_at i None skip from after = from
found_at i (Some moves) false from after = (i, moves) ∷ from
found_at i (Some moves) true from after = (i, moves) ∷ after

-- the pairs that a table finds along a string whose first glyph stands at place i: each with its place and how its glyphs are moved
unfoldable pub walk : Table → ℕ → List ℕ → List (ℕ × (Move × Move))
unfolding found_at
walk t i [] = []
walk t i (x ∷ []) = []
walk t i (x ∷ y ∷ string) = found_at i (adjust t x y) (skipping t) (walk t (i + 1) (y ∷ string)) (walk t (i + 2) string)

-- two tables that skip alike and move retained pairs alike find the same along a string of retained glyphs
pub walks_same : (g : List (ℕ × ℕ)) (t u : Table) → skipping u ≡ skipping t → ((x y : ℕ) → Retained g x → Retained g y → adjust u (new g x) (new g y) ≡ adjust t x y)
    → (i : ℕ) (string : List ℕ) → All (Retained g) string → walk u i (map (new g) string) ≡ walk t i string
unfolding walk
walks_same g t u e k i [] r = refl
walks_same g t u e k i (x ∷ []) r = refl
walks_same g t u e k i (x ∷ y ∷ string) r =
    let from = walks_same g t u e k (i + 1) (y ∷ string) r.1 in
    let after = walks_same g t u e k (i + 2) string r.1.1 in
    λ j. found_at i (k x y r.0 r.1.0 j) (e j) (from j) (after j)

-- what is left of a pair table has a nonzero second format exactly if the source has one
pub skipping_same : (g l : List (ℕ × ℕ)) (kind : ℕ) → kind ≡ 4 → (source : List ℕ) (small : Table) → cut g l (table kind source) ≡ Some small → skipping small ≡ skipping (table kind source)
unfolding table pair_table second_format
skipping_same g l kind k source small e = ap not (subst (Opt (λ u. eqb (second_format u) 0 ≡ eqb (second_format (table kind source)) 0)) e (left kind k))
  where
    Kept : Table → Type 0
    Kept t = Opt (λ u. eqb (second_format u) 0 ≡ eqb (second_format t) 0) (cut g l t)

    either : (t : Bool) (a b : Table) → Kept a → Kept b → Kept (cond t a b)
    either true a b h k = h
    either false a b h k = k

    left : (kind : ℕ) → kind ≡ 4 → Kept (table kind source)
    left kind k =
        rw k (either (eqb (word source 0) 1) _ _ (second_left g l _ (word source 4) (word source 6) _)
        (ClassPairs.second_left g l _ _ _ (word source 4) (word source 6) (word source 14) _))

-- A worked case: glyph 5 before glyph 5 is advanced by 10, with the second format 0x0004, whose values are all 0, or 0.

abbrev silent : List ℕ
silent = flat (1 ∷ 20 ∷ 4 ∷ 4 ∷ 1 ∷ 12 ∷ 1 ∷ 5 ∷ 10 ∷ 0 ∷ 1 ∷ 1 ∷ 5 ∷ [])

abbrev no_second : List ℕ
no_second = flat (1 ∷ 18 ∷ 4 ∷ 0 ∷ 1 ∷ 12 ∷ 1 ∷ 5 ∷ 10 ∷ 1 ∷ 1 ∷ 5 ∷ [])

-- a string that begins with a glyph of no pair, and its new numbers if 5 and 7 are retained as 0 and 1
abbrev string : List ℕ
string = 7 ∷ 5 ∷ 5 ∷ 5 ∷ 5 ∷ []

abbrev renumbered : List ℕ
renumbered = 1 ∷ 0 ∷ 0 ∷ 0 ∷ 0 ∷ []

-- what is left then
abbrev small : List ℕ → List ℕ
small source = left (subset 4 4 0 source (flat (5 ∷ 0 ∷ 7 ∷ 1 ∷ [])) [] (replicate 30 0))

-- the places of the pairs that are found, each with the advance of its first glyph
abbrev advances : List ℕ → List ℕ → List (ℕ × ℤ)
advances source glyphs = map (λ e. (e.0, e.1.0.x_advance)) (walk (table 4 source) 0 glyphs)

-- every second pair is skipped under the nonzero format, in the source and in what is left, and none under the format 0
pub every_second : ((advances silent string ≡ (1, pos 10) ∷ (3, pos 10) ∷ []) × (advances (small silent) renumbered ≡ (1, pos 10) ∷ (3, pos 10) ∷ []))
    × ((advances no_second string ≡ (1, pos 10) ∷ (2, pos 10) ∷ (3, pos 10) ∷ []) × (advances (small no_second) renumbered ≡ (1, pos 10) ∷ (2, pos 10) ∷ (3, pos 10) ∷ []))
unfolding flat bytes2 table adjust second_format walk subset
every_second = ((refl, refl), (refl, refl))
