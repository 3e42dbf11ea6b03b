-- The combined map, and how it goes along the second one.
use Rattle.std.specs.Prelude.{ℕ, ◌≡◌, List, [], ◌∷◌, Option, Some}

-- two lists of the same length, where ρ takes each number of the one to that of the other
abbrev pub Moved : (ℕ → Option ℕ) → List ℕ → List ℕ → Type 0
Moved ρ [] [] = Unit {0}
Moved ρ [] (y ∷ ys) = ⊥
Moved ρ (x ∷ xs) [] = ⊥
Moved ρ (x ∷ xs) (y ∷ ys) = (ρ x ≡ Some y) × Moved ρ xs ys

-- the same of maps, with equal new ids
abbrev pub Along : (ℕ → Option ℕ) → List (ℕ × ℕ) → List (ℕ × ℕ) → Type 0
Along ρ [] [] = Unit {0}
Along ρ [] (q ∷ n) = ⊥
Along ρ (p ∷ m) [] = ⊥
Along ρ (p ∷ m) (q ∷ n) = (ρ p.0 ≡ Some q.0) × (p.1 ≡ q.1) × Along ρ m n

-- no new id comes from two old ones
abbrev pub Injective : (ℕ → Option ℕ) → Type 0
Injective ρ = (c d n : ℕ) → ρ c ≡ Some n → ρ d ≡ Some n → c ≡ d
