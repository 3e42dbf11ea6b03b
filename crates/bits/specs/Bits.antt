-- Marks of the numbers from 0 on, one bit each, 32 to a cell, in the cells from `at` on.
use Rattle.std.specs.Prelude.{ℕ, ◌+◌, ◌*◌, ◌/◌, ◌%◌, ◌^◌, ◌≤◌, ◌<◌, ◌≡◌, List, Bool, true, false, ◌⊎◌, eqb, length, get_or}

-- whether x has a mark: a bit of its cell; a cell past the end has none
unfoldable pub marked : List ℕ → ℕ → ℕ → Bool
marked t at x = eqb (get_or t (at + x / 32) 0 / 2 ^ (x % 32) % 2) 1

-- x has a mark, if its cell is there; no other mark and no other cell is changed
pub record Put (at x : ℕ) (t₀ t : List ℕ) : Type 0 where
  pub size : length t ≡ length t₀
  pub cells : (i : ℕ) → (i ≡ at + x / 32 → ⊥) → get_or t i 0 ≡ get_or t₀ i 0
  pub own : at + x / 32 < length t₀ → marked t at x ≡ true
  pub others : (y : ℕ) → (y ≡ x → ⊥) → marked t at y ≡ marked t₀ at y

-- no number has a mark in the n cells; the other cells are as before
pub record Cleared (at n : ℕ) (t₀ t : List ℕ) : Type 0 where
  pub size : length t ≡ length t₀
  pub cells : (i : ℕ) → (i < at) ⊎ (at + n ≤ i) → get_or t i 0 ≡ get_or t₀ i 0
  pub none : (x : ℕ) → x < 32 * n → marked t at x ≡ false
