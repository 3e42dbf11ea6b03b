-- Rows of numbers, and their prints.
use Rattle.std.specs.Prelude.{ℕ, ◌+◌, ◌*◌, ◌%◌, ◌<◌, cond, List, [], ◌∷◌, map, get_or, eqb}
use Rattle.meaning.specs.Words.{words}
use Rattle.rule_rows.specs.declared.Run.{Run}

-- the left subtable for side 0, the right one for others
unfoldable pub side_of : ℕ → List ℕ → List ℕ → List ℕ
side_of side l r = cond (eqb side 0) l r

-- the number of a word: itself where there is no base, and else what t has for it
unfoldable pub number_by : List ℕ → ℕ → ℕ → ℕ
number_by t base w = cond (eqb base 0) w (get_or t (base + w) 0)

-- the places of a row are numbers
pub record Reads (x : Run) : Type 0 where
  pub near : x.at < 0x1_0000_0000
  pub based : x.base < 0x1_0000_0000

-- the first n numbers of a row
unfoldable pub numbers_of : List ℕ → List ℕ → List ℕ → Run → ℕ → List ℕ
numbers_of l r t x n = map (number_by t x.base) (words (side_of x.side l r) x.at n)

-- a number folded into a print
unfoldable pub mix : ℕ → ℕ → ℕ
mix h w = (h * 40503 + w) % 65536

-- numbers folded into a print, in order
unfoldable pub print_numbers : ℕ → List ℕ → ℕ
print_numbers h [] = h
print_numbers h (w ∷ ws) = print_numbers (mix h w) ws
