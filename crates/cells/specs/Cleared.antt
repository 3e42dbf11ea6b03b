-- Cells that are cleared.
use Rattle.std.specs.Prelude.{ℕ, ◌≤◌, ◌<◌, ◌≡◌, List, get_or}

-- The first n cells are 0, and the others are as they were.
pub record Cleared (n : ℕ) (old new : List ℕ) : Type 0 where
  pub blank : (i : ℕ) → i < n → get_or new i 0 ≡ 0
  pub kept : (i : ℕ) → n ≤ i → get_or new i 0 ≡ get_or old i 0
