-- Cells that hold the numbers of the classes of two class tables, and the way to them.
use Rattle.std.specs.Prelude.{ℕ, ◌+◌, ◌-◌, ◌%◌, ◌≤◌, ◌<◌, ◌≡◌, cond, List, get_or, set, leb, eqb, Option}
use Rattle.meaning.specs.Parts.{class_in}
use Rattle.difference_laws.specs.ClassNumbers.{lowest, strays, class_number}
use Rattle.class_stretches.specs.declared.Stretch.{Stretch}
use Rattle.class_stretches.specs.Tables.{table_at}
use Rattle.class_stretches.specs.Stretches.{Hint}
use Rattle.class_lists.specs.Elsewhere.{Elsewhere}

-- the glyphs from x to the last of the stretch r, if there are any, hold its class, and the search for a later one may begin with its next range
pub record Holding (s : List ℕ) (at x : ℕ) (r : Stretch) : Type 0 where
  pub low : r.last < 65536
  pub same : (y : ℕ) → x ≤ y → y ≤ r.last → r.class ≡ class_in (table_at s at) y
  pub small : r.class < 65536
  pub later : (y : ℕ) → r.last < y → Hint s at y r.next

-- the n cells from `base` on hold 0, and those elsewhere are as before
pub record Cleared (n : ℕ) (t₀ t : List ℕ) (base : ℕ) : Type 0 where
  pub each : (c : ℕ) → c < n → get_or t (base + c) 0 ≡ 0
  pub elsewhere : Elsewhere base (base + n) t₀ t

-- v in the cell i, if it holds 0
unfoldable pub first_put : List ℕ → ℕ → ℕ → List ℕ
first_put t i v = cond (eqb (get_or t i 0) 0) (set t i v) t

-- The 65,536 cells from `base` on hold the lowest id of each class, plus 1, among the first n ids; 0 for a class that none holds. The cells elsewhere are as before.
pub record Lowest (of : ℕ → ℕ) (n : ℕ) (t₀ t : List ℕ) (base : ℕ) : Type 0 where
  pub each : (c : ℕ) → c < 65536 → get_or t (base + c) 0 ≡ lowest of c n
  pub elsewhere : Elsewhere base (base + 65536) t₀ t

-- the lowest id of a class, plus 1, where v may have 65,536 or 131,072 more
unfoldable pub lowest_in : ℕ → ℕ
lowest_in v = cond (leb v 65536) v ((v - 1) % 65536 + 1)

-- the cells i and j, with the more that tells strays if their lowest ids differ
unfoldable pub compared : List ℕ → ℕ → ℕ → List ℕ
compared t i j = cond (eqb (lowest_in (get_or t i 0)) (lowest_in (get_or t j 0))) t (set (set t i (lowest_in (get_or t i 0) + 65536)) j (lowest_in (get_or t j 0) + 131072))

-- the lowest of n ids of a class, with `more` if one of the first m ids tells that it strays
unfoldable pub marked_with : ℕ → (ℕ → ℕ) → (ℕ → ℕ) → ℕ → ℕ → ℕ → ℕ
marked_with more of other n m c = cond (strays of other n c m) (lowest of c n + more) (lowest of c n)

-- the cells hold it for each class, the left ones and then the right ones
pub record Marked (of other : ℕ → ℕ) (n m : ℕ) (t : List ℕ) (base : ℕ) : Type 0 where
  pub left : (c : ℕ) → c < 65536 → get_or t (base + c) 0 ≡ marked_with 65536 of other n m c
  pub right : (c : ℕ) → c < 65536 → get_or t (base + 65536 + c) 0 ≡ marked_with 131072 other of n m c

-- the cells hold the number of each class, of the left table and then of the right one
pub record ClassesNumbered (l r : Option (List (ℕ × ℕ))) (t : List ℕ) (base : ℕ) : Type 0 where
  pub left : (c : ℕ) → c < 65536 → get_or t (base + c) 0 ≡ class_number 65536 (class_in l) (class_in r) 65536 c
  pub right : (c : ℕ) → c < 65536 → get_or t (base + 65536 + c) 0 ≡ class_number 131072 (class_in r) (class_in l) 65536 c
