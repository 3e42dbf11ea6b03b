-- The pairs of glyph and substitute that stay.
use Rattle.std.specs.Prelude.{◌≡◌, ℕ, ◌+◌, ◌*◌, ◌/◌, ◌%◌, ◌<◌, ◌≤◌, Bool, cond, List, map, length, ◌==◌, slice_index, slice_set, Option, None, Some}
use Rattle.meaning.specs.Words.{word, words, bind, map_some}
use Rattle.meaning.specs.Parts.{coverage}
use Rattle.meaning.specs.Tables.{plus_delta}
use Rattle.meaning.specs.Fault.{single_fault}
use Rattle.meaning.specs.Cut.{agree}
use Rattle.cell_maps.specs.Cells.{cell_entry, folded, Inside, Kept}
use Rattle.cell_maps.specs.declared.Map.{Map}
use Rattle.area.specs.Part.{part, notes, old_at}

-- the covered glyphs of a single substitution
abbrev pub covered : List ℕ → List ℕ
covered s = coverage s (word s 2)

-- the substitute of each, in order
unfoldable pub substitutes : List ℕ → List ℕ
substitutes s = cond (word s 0 == 1) (map (plus_delta (word s 4)) (covered s)) (words s 6 (word s 4))

-- what a substitute asks: the table has no fault, its coverage is not null and has the index i
pub record Singles (s : List ℕ) (i : ℕ) : Type 0 where
  pub sound : single_fault s ≡ None
  pub cover : word s 2 ≡ 0 → ⊥
  pub index : i < length (covered s)

-- r is the i-th substitute, and a word
pub record Substitute (s : List ℕ) (i r : ℕ) : Type 0 where
  pub glyph : r ≡ slice_index (substitutes s) i
  pub small : r < 65536

-- a pair in a cell: the new number of the substitute times 65,536, plus the glyph's; as glyph and substitute
abbrev pub pair_of : ℕ → ℕ × ℕ
pair_of c = (c % 65536, c / 65536)

-- n cells from `at` on as pairs, and their substitutes
abbrev pub pairs : List ℕ → ℕ → ℕ → List (ℕ × ℕ)
pairs t at n = map pair_of (part t at n)

abbrev pub subs : List ℕ → ℕ → ℕ → List ℕ
subs t at n = map (λ c. c / 65536) (part t at n)

-- the pair of a note, if its substitute is answered by the map f: `all` has the substitute of each coverage index
abbrev pub pair_at : (ℕ → Option ℕ) → List ℕ → ℕ × ℕ → Option (ℕ × ℕ)
pair_at f all e = bind (f (slice_index all e.0)) (λ m. Some (e.1, m))

-- the cell that a note becomes, where e is the cell of its substitute in the glyph map
abbrev pub pair_cell : ℕ → ℕ → ℕ
pair_cell e note = e % 65536 * 65536 + note % 65536

-- the substitute that the note in a cell names
abbrev pub noted : List ℕ → List ℕ → ℕ → ℕ
noted s t i = slice_index (substitutes s) (old_at t i)

-- what keeping the i-th note as the k-th pair asks
pub record KeepsPair (s t : List ℕ) (m : Map) (at i k : ℕ) : Type 0 where
  pub single : Singles s (old_at t (at + i))
  pub cells : Inside t m
  pub behind : at + i < length t
  pub few : k ≤ i

-- the k-th cell has the pair, and r counts it if its substitute is in the map
pub record KeptPair (s t : List ℕ) (m : Map) (at i k : ℕ) (after : List ℕ) (r : ℕ) : Type 0 where
  pub cell : after ≡ slice_set t (at + k) (pair_cell (cell_entry t m (noted s t (at + i))) (slice_index t (at + i)))
  pub count : r ≡ cond (cell_entry t m (noted s t (at + i)) / 65536 == noted s t (at + i)) (k + 1) k

-- what keeping the n notes from `at` on asks
pub record KeepsPairs (s t : List ℕ) (m : Map) (at n : ℕ) : Type 0 where
  pub sound : single_fault s ≡ None
  pub cover : word s 2 ≡ 0 → ⊥
  pub indexes : (j : ℕ) → j < n → old_at t (at + j) < length (covered s)
  pub cells : Inside t m
  pub before : m.at + m.mask < at
  pub behind : at + n ≤ length t

-- k cells from `at` on have the pairs that stay, and `same` says whether their differences agree; the cells before them are as before
pub record KeptPairs (s t : List ℕ) (m : Map) (at n : ℕ) (after : List ℕ) (k : ℕ) (same : Bool) : Type 0 where
  pub kept : Kept at t after
  pub few : k ≤ n
  pub stay : pairs after at k ≡ map_some (pair_at (folded t m) (substitutes s)) (notes t at n)
  pub agreed : same ≡ agree (pairs after at k)
