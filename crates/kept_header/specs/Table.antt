-- The table that kept sets make, and how it stands in the area.
use Rattle.std.specs.Prelude.{ℕ, ◌+◌, ◌-◌, ◌*◌, ◌≤◌, ◌<◌, ◌≡◌, Bool, List, [], ◌∷◌, ◌++◌, length, Option, None, Some}
use Rattle.meaning.specs.Words.{flat}
use Rattle.meaning.specs.Cut.{glyphs_of}
use Rattle.meaning.specs.Layout.{coverage_words}
use Rattle.room.specs.Laid.{enough_area}
use Rattle.area.specs.Part.{part, news}
use Rattle.handing.specs.Closed.{members}
use Rattle.known_blocks.specs.Shared.{offsets_in, blocks_in}
use Rattle.placed_sets.specs.Sorts.{more_of, header_size}
use Rattle.placed_sets.specs.Kept.{words_of, Placed}
use Rattle.placed_sets.specs.declared.Sort.{Sort}

-- the words of a table of format 1 by sets with this coverage, in either layout: the format, the coverage's offset, further words, the count and the offsets of the sets; the sets, and the coverage
unfoldable pub sets_in : Bool → List ℕ → List ℕ → List (Option (List ℕ)) → List ℕ
sets_in packed cover more sets =
    let first = 6 + 2 * length more + 2 * length sets in
    1 ∷ (first + 2 * length (blocks_in packed sets)) ∷ (more ++ (length sets ∷ (offsets_in packed first sets ++ (blocks_in packed sets ++ cover))))

-- the words of the table of these sets, which these glyphs index
abbrev pub layout_of : Bool → Sort → List ℕ → List (List ℕ) → List ℕ
layout_of packed sort gs bs = sets_in packed (coverage_words gs) (more_of sort) (members bs)

-- the words of the table of kept sets, if one is kept
unfoldable pub table_of : Bool → Sort → List (ℕ × List ℕ) → Option (List ℕ)
table_of packed sort [] = None
table_of packed sort (e ∷ ks) = Some (layout_of packed sort (glyphs_of (e ∷ ks)) (words_of (e ∷ ks)))

-- what is asked of k sets that stand from `first` up to p: there is one, and the gap before `first` is not too wide
pub record Finishes (sort : Sort) (t : List ℕ) (notes k first p : ℕ) (area : List ℕ) : Type 0 where
  pub some_set : 0 < k
  pub fits : notes + k ≤ length t
  pub behind : header_size sort + 2 * k ≤ first
  pub near : first ≤ header_size sort + 2 * k + 262144
  pub start : first ≤ p
  pub room : p ≤ length area
  pub short : length area ≤ enough_area

-- Whatever sets stand there: the head of their table stands at the front and the rest from `first` up to r, or the area is too short for the coverage.
pub record Finished (sort : Sort) (t : List ℕ) (notes k first p : ℕ) (before after : List ℕ) (r : ℕ) : Type 0 where
  pub same : length after ≡ length before
  pub start : r ≤ length before → p ≤ r
  pub table : {packed : Bool} (bs : List (List ℕ)) → length bs ≡ k → Placed packed (header_size sort) first bs before p → r ≤ length before
      → part after 0 (header_size sort + 2 * k) ++ part after first (r - first) ≡ flat (layout_of packed sort (news t notes k) bs)
  pub full : length before < r → length before < p + 2 * length (coverage_words (news t notes k))
