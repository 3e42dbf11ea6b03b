-- The codes of the rules of a set, and their numbers.
use Rattle.std.specs.Prelude.{ℕ, zero, suc, ◌+◌, ◌-◌, ◌*◌, ◌≤◌, ◌<◌, ◌≡◌, cond, List, [], ◌∷◌, length, get_or, eqb}
use Rattle.meaning.specs.Words.{word}
use Rattle.laws.specs.Stands.{All}
use Rattle.differences.specs.Content.{Says}
use Rattle.differences.specs.Entries.{same_says}
use Rattle.rule_numbers.specs.Book.{Book}

-- a place on one of the two sides, with cells for the codes of rules
pub record Near (side at size : ℕ) : Type 0 where
  pub sides : side ≤ 1
  pub near : at < 65536
  pub codes : 262144 ≤ size

-- the codes of n slots from `slot` on, of the set at `at` of this side; null ones are passed over
unfoldable pub codes_from : List ℕ → ℕ → ℕ → ℕ → ℕ → List ℕ
codes_from s side at slot zero = []
codes_from s side at slot (suc n) = cond (eqb (word s slot) 0) (codes_from s side at (slot + 2) n) ((2 * (at + word s slot) + side) ∷ codes_from s side at (slot + 2) n)

-- the codes of the set at `at`; a null one has none
unfoldable pub codes_of : List ℕ → ℕ → ℕ → List ℕ
codes_of s side at = cond (eqb at 0) [] (codes_from s side at (at + 2) (word s at))

-- these codes have numbers
abbrev pub AllNumbered : List ℕ → List ℕ → Type 0
AllNumbered num codes = All (λ c. get_or num c 0 ≡ 0 → ⊥) codes

-- the codes of all sets whose offsets stand from `first` on have numbers
pub record SetsNumbered (s : List ℕ) (side first : ℕ) (num : List ℕ) : Type 0 where
  pub all : (i : ℕ) → i < word s (first - 2) → AllNumbered num (codes_of s side (word s (first + 2 * i)))

module _ {A : Type 0} (says : ℕ → A) (print : A → ℕ) where
  -- Codes have numbers, and numbers that were there before are as they were.
  pub record SetNumbered (codes num₀ num came : List ℕ) : Type 0 where
    pub book : Book says print num came
    pub all : AllNumbered num codes
    pub stay : (d : ℕ) → (get_or num₀ d 0 ≡ 0 → ⊥) → get_or num d 0 ≡ get_or num₀ d 0

  -- The same of all sets of a side.
  pub record SideNumbered (s : List ℕ) (side first : ℕ) (num₀ num came : List ℕ) : Type 0 where
    pub book : Book says print num came
    pub sets : SetsNumbered s side first num
    pub stay : (d : ℕ) → (get_or num₀ d 0 ≡ 0 → ⊥) → get_or num d 0 ≡ get_or num₀ d 0

-- cells for the codes of rules, and for what has come of them
pub record Cells (num came : ℕ) : Type 0 where
  pub codes : num ≡ 262144
  pub comes : 589828 ≤ came

-- All rules of both sides have numbers, which are equal exactly if the rules say the same, and none is greater than there are cells.
pub record Told (says : ℕ → Says) (l r : List ℕ) (first : ℕ) (num : List ℕ) : Type 0 where
  pub tells : (c d : ℕ) → (get_or num c 0 ≡ 0 → ⊥) → (get_or num d 0 ≡ 0 → ⊥) → same_says (says c) (says d) ≡ eqb (get_or num c 0) (get_or num d 0)
  pub few : (c : ℕ) → get_or num c 0 ≤ length num
  pub lefts : SetsNumbered l 0 first num
  pub rights : SetsNumbered r 1 first num
