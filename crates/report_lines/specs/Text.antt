-- What the functions that print ask and promise.
use Rattle.std.specs.Prelude.{ℕ, ◌+◌, ◌≤◌, ◌≡◌, List, [], ◌∷◌, ◌++◌, length, drop}
use Rattle.std.proofs.lemmas.List.Edits.{sets}
use Rattle.meaning.specs.Job.{ascii, decimal, newline, hex_lines}

-- the bytes stand from `at` on, each where there is room, and r is the place after them
pub record Put (before : List ℕ) (at : ℕ) (bytes after : List ℕ) (r : ℕ) : Type 0 where
  pub place : r ≡ at + length bytes
  pub stand : after ≡ sets before at bytes

-- the decimal digits of n are what stands in the twenty bytes from `first` on
pub record Spelled (n : ℕ) (small : List ℕ) (first : ℕ) : Type 0 where
  pub within : first ≤ 20
  pub long : length small ≡ 20
  pub digits : drop first small ≡ decimal n

-- a line of a word and a number
unfoldable pub line_text : List ℕ → ℕ → List ℕ
line_text word n = word ++ (decimal n ++ (newline ∷ []))

-- what is printed of bytes that are kept
unfoldable pub kept_text : List ℕ → List ℕ
kept_text bytes = ascii "kept " ++ (decimal (length bytes) ++ (newline ∷ hex_lines 16 bytes))

-- a buffer of at most 65,536 bytes, and a number and a length of which the length lies in the buffer where the number says that it is kept
pub record Printable (number len : ℕ) (bytes : List ℕ) : Type 0 where
  pub small : length bytes ≤ 262144
  pub within : number ≡ 0 → len ≤ length bytes
