-- A run that is not cut short.
use Rattle.std.specs.Prelude.{ℕ, ◌+◌, ◌*◌, ◌≤◌, List, length}
use Rattle.meaning.specs.Words.{word}

-- the run whose count stands at `at` has at most 64 glyphs and lies inside the trace
pub record Whole (trace : List ℕ) (at : ℕ) : Type 0 where
  pub short : word trace at ≤ 64
  pub inside : at + (2 + 4 * word trace at) ≤ length trace
