-- The numbers of the rules of a set, and the pair of sets that is remembered.
use Rattle.std.specs.Prelude.{ℕ, ◌+◌, ◌*◌, ◌≤◌, ◌<◌, ◌≡◌, Bool, true, ◌⊎◌, List, map, length, get_or, drop, eqb}
use Rattle.differences.specs.Entries.{rule_entries}
use Rattle.rule_differences.specs.Ranked.{Partners}
use Rattle.partners.specs.Chains.{numbers_from, Below, Kept}
use Rattle.set_numbers.specs.Sets.{codes_of}

-- the number of a code
abbrev pub number_in : List ℕ → ℕ → ℕ
number_in num c = get_or num c 0

-- the numbers of the rules of the set at `at` of this side
unfoldable pub numbers_at : List ℕ → List ℕ → ℕ → ℕ → List ℕ
numbers_at num s side at = map (number_in num) (codes_of s side at)

-- a set of one of the two sides, and a row of cells from `from` on
pub record Gathers (side at from size : ℕ) : Type 0 where
  pub sides : side ≤ 1
  pub near : at < 65536
  pub row : from ≤ 65536
  pub cells : from + 65536 ≤ size

-- These numbers stand in the m cells from `from` on, and the cells before are as they were.
pub record Gathered (ns : List ℕ) (from : ℕ) (old new : List ℕ) (m : ℕ) : Type 0 where
  pub stand : numbers_from new from m ≡ ns
  pub few : m < 65536
  pub kept : Kept from old new

-- two rows of m and of n numbers, each with a cell among the heads
pub record Rowed (m n : ℕ) (nums : List ℕ) (heads links : ℕ) : Type 0 where
  pub lefts : m < 65536
  pub rights : n < 65536
  pub cells : 131072 ≤ length nums
  pub linked : 196608 ≤ links
  pub left_below : Below nums m heads
  pub right_below : Below (drop 65536 nums) n heads

-- The partners of both rows stand in the first two rows of the links.
pub record PairedRows (l r links : List ℕ) : Type 0 where
  pub lefts : Partners eqb l r links
  pub rights : Partners eqb r l (drop 65536 links)

-- cells that are enough for any two subtables
pub record Scratch (num nums heads links : ℕ) : Type 0 where
  pub codes : num ≡ 262144
  pub rows : 131075 ≤ nums
  pub comes : 589828 ≤ heads
  pub linked : 458752 ≤ links

-- there are cells for the rows, and for each number among the heads
pub record Fit (num : List ℕ) (nums heads links : ℕ) : Type 0 where
  pub below : (c : ℕ) → get_or num c 0 < heads
  pub rows : 131075 ≤ nums
  pub linked : 196608 ≤ links

-- The list of the pair of sets that is remembered takes as many bytes as is said.
pub record Remembered (num l r nums : List ℕ) : Type 0 where
  pub few : get_or nums 131074 0 ≤ 0x18_0000
  pub bytes : get_or nums 131074 0 ≡ 12 * length (rule_entries eqb 0 (numbers_at num l 0 (get_or nums 131072 0)) (numbers_at num r 1 (get_or nums 131073 0)))

-- if k, then this pair of sets is remembered, and its list is empty or there is no room for it
pub record Known (nums : List ℕ) (left right pos room : ℕ) (k : Bool) : Type 0 where
  pub left_is : k ≡ true → get_or nums 131072 0 ≡ left
  pub right_is : k ≡ true → get_or nums 131073 0 ≡ right
  pub nothing : k ≡ true → (get_or nums 131074 0 ≡ 0) ⊎ (room ≤ pos)
