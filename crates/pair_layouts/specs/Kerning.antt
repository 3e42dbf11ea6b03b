-- The words of a pair table by class, from its parts, and whether they fit.
use Rattle.std.specs.Prelude.{ℕ, ◌+◌, ◌-◌, ◌*◌, Bool, cond, ◌&&◌, List, [], ◌∷◌, ◌++◌, length, leb, eqb}
use Rattle.meaning.specs.Words.{word, eq_list, twos, flat}
use Rattle.meaning.specs.Tables.{Pair}
use Rattle.meaning.specs.Cut.{new_format, new_second, thin, rows_of}
use Rattle.meaning.specs.Layout.{coverage_words, class_words, row_words}
use Rattle.meaning.specs.Subset.{Outcome}
use Rattle.room.specs.Laid.{laid_as}
use Rattle.area.specs.Part.{news, notes}
use Rattle.numbers.specs.Entries.{entries_in}
use Rattle.class_formats.specs.Kept.{kept_of}
use Rattle.pair_layouts.specs.declared.Noted.{Noted}
use Rattle.pair_layouts.specs.declared.Classed.{Classed}

-- the header: the format, the coverage's offset, the value formats, the offsets of first and of second classes, and their counts
abbrev pub head_words : ℕ → ℕ → ℕ → ℕ → ℕ → ℕ → ℕ → List ℕ
head_words n1 n2 rows columns cover first second = 2 ∷ cover ∷ n1 ∷ n2 ∷ first ∷ second ∷ rows ∷ columns ∷ []

-- the offset of the second classes, the highest, fits a word, and so do the counts of both class tables
abbrev pub fits_at : ℕ → ℕ → ℕ → Bool
fits_at first second end = leb second 65535 && (leb (second - first) 131076 && leb (end - second) 131076)

-- the second classes are not written again: the layout is packed, and their entries are those of the first ones
unfoldable pub shared : ℕ → List (ℕ × ℕ) → List (ℕ × ℕ) → Bool
shared packing first second = eqb packing 1 && eq_list (twos first) (twos second)

-- where each part stands behind the cells, and the words of all; both class tables may be one
module _ (one : Bool) (cells cover first second : List ℕ) where
  abbrev pub cover_at : ℕ
  cover_at = 16 + 2 * length cells

  abbrev pub first_at : ℕ
  first_at = cover_at + 2 * length cover

  abbrev pub second_at : ℕ
  second_at = cond one first_at (first_at + 2 * length first)

  -- what is written of the second classes
  abbrev pub last : List ℕ
  last = cond one [] second

  abbrev pub end_at : ℕ
  end_at = first_at + 2 * length first + 2 * length last

  unfoldable pub kern_words : ℕ → ℕ → ℕ → ℕ → List ℕ
  kern_words n1 n2 rows columns = head_words n1 n2 rows columns cover_at first_at second_at ++ (cells ++ (cover ++ (first ++ last)))

  -- laid into the buffer
  unfoldable pub parts_into : List ℕ → ℕ → ℕ → ℕ → ℕ → Outcome
  parts_into out n1 n2 rows columns = laid_as (fits_at first_at second_at end_at) out (flat (kern_words n1 n2 rows columns))

-- what kept rows of a source make in the layout with this mark, with the new formats that they ask for
unfoldable pub kern_into : ℕ → List ℕ → List ℕ → List (ℕ × List Pair) → ℕ → ℕ → List ℕ → List (ℕ × ℕ) → List (ℕ × ℕ) → Outcome
kern_into packing out s kept rows columns cover first second =
    let n1 = new_format (λ p. p.first_values) (word s 4) kept in
    let n2 = new_second (word s 6) kept in
    parts_into (shared packing first second) (row_words (rows_of (thin (word s 4) (word s 6) n1 n2 kept))) (coverage_words cover) (class_words first) (class_words second) out n1 n2 rows columns

-- what is left, as the cells say it: the covered glyphs are noted, and the maps of the classes and the entries of their tables lie there
abbrev pub left_into : ℕ → List ℕ → List ℕ → List ℕ → Noted → Classed → Classed → Outcome
left_into packing out s t cover first second =
    kern_into packing out s (kept_of (entries_in t first.map) (entries_in t second.map) s) first.count second.count
    (news t cover.at cover.len) (notes t first.entries.at first.entries.len) (notes t second.entries.at second.entries.len)
