-- Marks, by what their cells read as.
use Rattle.std.specs.Prelude.{ℕ, zero, suc, ◌+◌, ◌/◌, ◌%◌, ◌^◌, ◌≡◌, refl, List, false, eqb, get_or, replicate}
use Rattle.std.proofs.Math.Nat.{div-eq_of_lt}
use Rattle.std.proofs.Common.{ap, ◌∙◌, pow_pos}
use Rattle.bits.specs.Bits.{marked}

-- a cell of 0 has no mark
pub blank_unmarked : (t : List ℕ) (at x : ℕ) → get_or t (at + x / 32) 0 ≡ 0 → marked t at x ≡ false
unfolding marked
blank_unmarked t at x h = ap (λ (n : ℕ). eqb (n / 2 ^ (x % 32) % 2) 1) h ∙ ap (λ (n : ℕ). eqb (n % 2) 1) (div-eq_of_lt (pow_pos (x % 32)))

-- where the cells are the same, so are the marks
pub same_cell : (t u : List ℕ) (at x : ℕ) → get_or u (at + x / 32) 0 ≡ get_or t (at + x / 32) 0 → marked u at x ≡ marked t at x
unfolding marked
same_cell t u at x h = ap (λ (n : ℕ). eqb (n / 2 ^ (x % 32) % 2) 1) h

-- cells of 0 have no marks
zeros : (n i : ℕ) → ◌≡◌ {A = ℕ} (get_or (replicate n 0) i 0) 0
zeros zero i = refl
zeros (suc n) zero = refl
zeros (suc n) (suc i) = zeros n i

pub none_marked : (n at x : ℕ) → marked (replicate n 0) at x ≡ false
none_marked n at x = blank_unmarked (replicate n 0) at x (zeros n (at + x / 32))
