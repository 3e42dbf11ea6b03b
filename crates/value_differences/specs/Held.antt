-- The pairs of a set as the content of a table says them, read from the bytes.
use Rattle.std.specs.Prelude.{ℕ, ◌+◌, ◌*◌, Bool, cond, ◌||◌, List, [], ◌∷◌, ◌++◌, map, get_or, eqb}
use Rattle.meaning.specs.Words.{word, words}
use Rattle.meaning.specs.Tables.{field_count, pair_records}
use Rattle.differences.specs.Content.{four_values, pair_says}
use Rattle.differences.specs.Entries.{Entry}
use Rattle.listing.specs.Listed.{entry_of}

-- k is the bit of one of the four fields
abbrev pub is_field : ℕ → Bool
is_field k = eqb k 1 || (eqb k 2 || (eqb k 4 || eqb k 8))

-- the bit of the i-th of the four fields
abbrev pub field_bit : ℕ → ℕ
field_bit i = get_or (1 ∷ 2 ∷ 4 ∷ 8 ∷ []) i 0

-- the eight values of the pair record that stands at p in the source s, by the formats of s
unfoldable pub values_at : List ℕ → ℕ → List ℕ
values_at s p =
    four_values (word s 4) (words s (p + 2) (field_count (word s 4))) ++ four_values (word s 6) (words s (p + 2 + 2 * field_count (word s 4)) (field_count (word s 6)))

-- what is listed of a value that is a on the left and b on the right
abbrev pub value_entry : ℕ → ℕ → ℕ → ℕ → ℕ → List Entry
value_entry g second i a b = cond (eqb a b) [] (entry_of 6 i g second a b ∷ [])

-- how many bytes a pair record of s takes
abbrev pub size_of : List ℕ → ℕ
size_of s = 2 + 2 * field_count (word s 4) + 2 * field_count (word s 6)

-- n pairs whose records stand from p on, as the content says them
unfoldable pub pairs_from : List ℕ → ℕ → ℕ → List (ℕ × List ℕ)
pairs_from s p n = map (pair_says (word s 4) (word s 6)) (pair_records s (field_count (word s 4)) (field_count (word s 6)) p n)

-- how many pairs the set at `at` has; a null one, which stands at 0, has none
abbrev pub count_in : List ℕ → ℕ → ℕ
count_in s at = cond (eqb at 0) 0 (word s at)

-- the pairs of the set at `at`
unfoldable pub held : List ℕ → ℕ → List (ℕ × List ℕ)
held s at = pairs_from s (at + 2) (count_in s at)

-- the second glyph of the record at p, where n are left; past all glyphs where none is
abbrev pub next_second : List ℕ → ℕ → ℕ → ℕ
next_second s p n = cond (eqb n 0) 65536 (word s p)
