-- The kept cells, by the places of their fields: which fields they use, and their words.
-- A cell is a pair record without its second glyph; p is the place two bytes before it.
use Rattle.std.specs.Prelude.{ℕ, zero, suc, ◌+◌, ◌*◌, ◌≤◌, Bool, false, ◌&&◌, ◌||◌, not, List, [], ◌++◌, map, length, eqb, Option, None, Some}
use Rattle.meaning.specs.Words.{word, find, is_some}
use Rattle.meaning.specs.Cut.{keep_if}
use Rattle.pair_fields.specs.Pairs.{value_at}
use Rattle.pair_places.specs.Formats.{field_place}

-- some kept one of n cells from p on, of the second classes from c on, has a value at `place` that is not 0
unfoldable pub row_uses : List (ℕ × ℕ) → List ℕ → ℕ → ℕ → ℕ → ℕ → ℕ → Bool
row_uses m2 s size place c p zero = false
row_uses m2 s size place c p (suc n) = (not (eqb (value_at s p place) 0) && is_some (find m2 c)) || row_uses m2 s size place (c + 1) (p + size) n

-- the same of the kept ones of n rows of m cells from p on, of the first classes from c on
unfoldable pub rows_use : List (ℕ × ℕ) → List (ℕ × ℕ) → List ℕ → ℕ → ℕ → ℕ → ℕ → ℕ → ℕ → Bool
rows_use m1 m2 s size place m c p zero = false
rows_use m1 m2 s size place m c p (suc n) = (is_some (find m1 c) && row_uses m2 s size place 0 p m) || rows_use m1 m2 s size place m (c + 1) (p + size * m) n

-- the same of all rows of a source
unfoldable pub cells_use : List (ℕ × ℕ) → List (ℕ × ℕ) → List ℕ → ℕ → ℕ → Bool
cells_use m1 m2 s size place = rows_use m1 m2 s size place (word s 14) 0 14 (word s 12)

-- the format with just the fields that are used, of the format f, whose value record starts at `start`
unfoldable pub format_in : List (ℕ × ℕ) → List (ℕ × ℕ) → List ℕ → ℕ → ℕ → ℕ → ℕ
format_in m1 m2 s size start f =
    keep_if (cells_use m1 m2 s size (field_place start f 1)) 1 + keep_if (cells_use m1 m2 s size (field_place start f 2)) 2 + keep_if (cells_use m1 m2 s size (field_place start f 4)) 4 + keep_if (cells_use m1 m2 s size (field_place start f 8)) 8

-- words that stay if their class has a new number
abbrev pub if_kept : Option ℕ → List ℕ → List ℕ
if_kept (Some n) ws = ws
if_kept None ws = []

-- the words of the kept ones of n cells from p on, of the second classes from c on: the values at the places
unfoldable pub row_left : List (ℕ × ℕ) → List ℕ → ℕ → List ℕ → ℕ → ℕ → ℕ → List ℕ
row_left m2 s size places c p zero = []
row_left m2 s size places c p (suc n) = if_kept (find m2 c) (map (value_at s p) places) ++ row_left m2 s size places (c + 1) (p + size) n

-- those of the kept ones of n rows of m cells from p on, of the first classes from c on
unfoldable pub rows_left : List (ℕ × ℕ) → List (ℕ × ℕ) → List ℕ → ℕ → List ℕ → ℕ → ℕ → ℕ → ℕ → List ℕ
rows_left m1 m2 s size places m c p zero = []
rows_left m1 m2 s size places m c p (suc n) = if_kept (find m1 c) (row_left m2 s size places 0 p m) ++ rows_left m1 m2 s size places m (c + 1) (p + size * m) n

-- those of all rows of a source
unfoldable pub cells_left : List (ℕ × ℕ) → List (ℕ × ℕ) → List ℕ → ℕ → List ℕ → List ℕ
cells_left m1 m2 s size places = rows_left m1 m2 s size places (word s 14) 0 14 (word s 12)

-- the header lies inside, and the row at p of cells of this size
pub record HasRow (s : List ℕ) (size p : ℕ) : Type 0 where
  pub header : 16 ≤ length s
  pub cells : p + 2 + size * word s 14 ≤ length s

-- the header lies inside, and so do its rows of cells of this size, which is that of 16 fields at most
pub record HasCells (s : List ℕ) (size : ℕ) : Type 0 where
  pub header : 16 ≤ length s
  pub small : size ≤ 32
  pub cells : 16 + size * word s 14 * word s 12 ≤ length s
