-- Marks of the places of parts whose faults were counted, one bit each.
use Rattle.std.specs.Prelude.{ℕ, ◌≡◌, true, List, Option}
use Rattle.meaning.specs.Fault.{lowest}
use Rattle.bits.specs.Bits.{marked}

-- the fault of a part whose place has a mark is no lower than the lowest so far
pub record Seen (fault_at : ℕ → Option ℕ) (low : Option ℕ) (marks : List ℕ) : Type 0 where
  pub counted : (p : ℕ) → marked marks 0 p ≡ true → lowest low (fault_at p) ≡ low
