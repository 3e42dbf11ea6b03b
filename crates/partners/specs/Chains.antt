-- Chains of ranks: a head is the first rank plus 1, and each rank's cell is the next one plus 1; 0 ends the chain.
use Rattle.std.specs.Prelude.{ℕ, zero, suc, ◌+◌, ◌<◌, ◌≡◌, List, [], ◌∷◌, get_or, drop, eqb}
use Rattle.difference_laws.specs.Ranks.{ranks_of, left_over}
use Rattle.rule_differences.specs.Ranked.{Partners}

-- n numbers that stand in the cells from i on
unfoldable pub numbers_from : List ℕ → ℕ → ℕ → List ℕ
numbers_from t i zero = []
numbers_from t i (suc n) = get_or t i 0 ∷ numbers_from t (i + 1) n

-- the first n
abbrev pub numbers_in : List ℕ → ℕ → List ℕ
numbers_in t n = numbers_from t 0 n

-- the ranks js are chained from h on
abbrev pub Chain : List ℕ → ℕ → List ℕ → Type 0
Chain next h [] = h ≡ 0
Chain next h (j ∷ js) = (h ≡ suc j) × Chain next (get_or next j 0) js

-- what follows h
abbrev pub next_of : List ℕ → ℕ → ℕ
next_of next zero = 0
next_of next (suc j) = get_or next j 0

-- the cells of next ranks among the links
abbrev pub next_in : List ℕ → List ℕ
next_in links = drop 131072 links

-- the cells before `at` are as they were
pub record Kept (at : ℕ) (old new : List ℕ) : Type 0 where
  pub same : (j : ℕ) → j < at → get_or new j 0 ≡ get_or old j 0

-- the first m own numbers have cells
pub record Below (own : List ℕ) (m size : ℕ) : Type 0 where
  pub below : (k : ℕ) → k < m → get_or own k 0 < size

-- their chains are empty
pub record Cleared (own : List ℕ) (m : ℕ) (heads : List ℕ) : Type 0 where
  pub empty : (k : ℕ) → k < m → get_or heads (get_or own k 0) 0 ≡ 0

-- their chains are the ranks, from j on, of these numbers
pub record Linked (own : List ℕ) (m : ℕ) (others : List ℕ) (j : ℕ) (heads next : List ℕ) : Type 0 where
  pub chains : (k : ℕ) → k < m → Chain next (get_or heads (get_or own k 0) 0) (ranks_of (get_or own k 0) j others)

-- their chains are the ranks that are left when the own numbers before rank i have taken theirs
pub record Left (own : List ℕ) (m : ℕ) (others : List ℕ) (i : ℕ) (heads next : List ℕ) : Type 0 where
  pub chains : (k : ℕ) → k < m → Chain next (get_or heads (get_or own k 0) 0) (left_over (numbers_in own m) others i (get_or own k 0))

-- The partners of the own numbers stand from `at` on, and the cells before are as they were.
pub record Paired (own : List ℕ) (m : ℕ) (others : List ℕ) (n at : ℕ) (old new : List ℕ) : Type 0 where
  pub partners : Partners eqb (numbers_in own m) (numbers_in others n) (drop at new)
  pub kept : Kept at old new
