-- The layout of the pairs that stay, and what is handed over.
use Rattle.std.specs.Prelude.{ℕ, ◌+◌, ◌*◌, ◌≤◌, ◌<◌, ◌≡◌, Bool, true, List, ◌∷◌, ◌++◌, length, get_or, Result}
use Rattle.meaning.specs.Words.{flat}
use Rattle.meaning.specs.Cut.{delta_of, agree, kept_singles}
use Rattle.meaning.specs.Layout.{coverage_words}
use Rattle.laws.specs.Through.{Opt}
use Rattle.laws.specs.CutGood.{GoodOf}
use Rattle.room.specs.Laid.{laid_as}
use Rattle.area.specs.Extends as Extends
use Rattle.area.specs.Part.{news}
use Rattle.tried.specs.Tries.{Tries}
use Rattle.tried.specs.declared.NotCut.{NotCut}
use Rattle.single_pairs.specs.Pairs.{pair_of, pairs, subs}

-- the words of format 1: the first pair's difference, and the coverage of the pairs' glyphs
abbrev pub delta_layout : List ℕ → ℕ → ℕ → List ℕ
delta_layout t at n = 1 ∷ 6 ∷ delta_of (pair_of (get_or t at 0)) ∷ coverage_words (news t at n)

-- the words of format 2: the pairs' substitutes, and that coverage
abbrev pub list_layout : List ℕ → ℕ → ℕ → List ℕ
list_layout t at n = 2 ∷ (6 + 2 * n) ∷ n ∷ (subs t at n ++ coverage_words (news t at n))

-- there are pairs in the n cells from `at` on
pub record Standing (t : List ℕ) (at n : ℕ) : Type 0 where
  pub inside : at + n ≤ length t
  pub some : 0 < n
  pub few : n ≤ 65536

-- the words stand at the area's front up to r, or the area is too short for them
abbrev pub Stands : List ℕ → List ℕ → List ℕ → ℕ → Type 0
Stands before ws after r = Extends.Tried before 0 ws after r

-- whatever words stand at the area's front up to `end` are handed over
pub record Hands (area : List ℕ) (end : ℕ) (r : Result ℕ NotCut) (out after : List ℕ) : Type 0 where
  pub handed : {before ws : List ℕ} → Stands before ws area end → Tries (⊥) (length before < 2 * length ws) r out after (laid_as true out (flat ws))

-- what laying n pairs asks: they stand in the cells from `at` on, `same` says whether their differences agree, and what they make is good
pub record Writes (t : List ℕ) (at n : ℕ) (same : Bool) : Type 0 where
  pub inside : at + n ≤ length t
  pub few : n ≤ 65536
  pub agreed : same ≡ agree (pairs t at n)
  pub good : Opt (GoodOf 5) (kept_singles (pairs t at n))
