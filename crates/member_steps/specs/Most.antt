-- Marks of the places of rules that were counted, one bit each.
use Rattle.std.specs.Prelude.{ℕ, ◌≡◌, Bool, true, List}
use Rattle.meaning.specs.Tables.{rule}
use Rattle.bits.specs.Bits.{marked}
use Rattle.replaying.specs.Cost.{larger, rule_steps}

-- a rule whose place has a mark takes no more than the most so far
pub record Counted (chained : Bool) (s steps : List ℕ) (most : ℕ) (marks : List ℕ) : Type 0 where
  pub counted : (p : ℕ) → marked marks 0 p ≡ true → larger most (rule_steps steps (rule chained s p)) ≡ most
