-- Where the parts of a rule stand in its source.
use Rattle.std.specs.Prelude.{ℕ, ◌+◌, ◌*◌, ◌<◌, ◌≡◌, Bool, List}
use Rattle.meaning.specs.Words.{words, entries, inside}
use Rattle.meaning.specs.Tables.{rule}
use Rattle.meaning.specs.Fault.{rule_sound}
use Rattle.rules.specs.declared.Row.{Row}
use Rattle.rules.specs.declared.RuleParts.{RuleParts}

-- a row that belongs to the rule at `at`: it begins at most five arrays later, and its length is a word
pub record Near (at : ℕ) (r : Row) : Type 0 where
  pub close : r.at < at + 0x8_0000
  pub short : r.len < 65536

-- r says where the parts of the rule at `at` stand; and since they stand in a row, the rule lies inside the source if its records do
pub record IsRule (chained : Bool) (s : List ℕ) (at : ℕ) (r : RuleParts) : Type 0 where
  pub back : words s r.back.at r.back.len ≡ (rule chained s at).back
  pub count : r.count ≡ (rule chained s at).count
  pub input : words s r.input.at r.input.len ≡ (rule chained s at).input
  pub ahead : words s r.ahead.at r.ahead.len ≡ (rule chained s at).ahead
  pub records : entries s r.records.at r.records.len ≡ (rule chained s at).records
  pub ends : rule_sound chained s at ≡ inside s r.records.at (4 * r.records.len)
  pub near_back : Near at r.back
  pub near_input : Near at r.input
  pub near_ahead : Near at r.ahead
  pub near_records : Near at r.records
