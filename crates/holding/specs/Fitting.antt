-- When the parts of a rule fit at a place of a string.
use Rattle.std.specs.Prelude.{ℕ, ◌+◌, ◌≤◌, Bool, ◌&&◌, List, drop, ltb}
use Rattle.replay_laws.specs.Places.{backward}
use Rattle.rules.specs.declared.Row.{Row}
use Rattle.rules.specs.declared.RuleParts.{RuleParts}
use Rattle.holding.specs.Held.{Fine, runs_on}
use Rattle.holding.specs.declared.Sequence.{Sequence}
use Rattle.holding.specs.declared.How.{How}

-- the numbers of a row as a sequence
abbrev pub sequence_of : ℕ → ℕ → Row → Sequence
sequence_of sort table row = record { sort = sort; table = table; at = row.at; len = row.len }

-- the parts of a rule fit at a place, with the input from `start` on
unfoldable pub parts_fit : List ℕ → How → RuleParts → List ℕ → ℕ → ℕ → Bool
parts_fit s h r text place start =
    ltb 0 r.count && (runs_on s (sequence_of h.sort h.input r.input) (drop start text)
    && (runs_on s (sequence_of h.sort h.ahead r.ahead) (drop (place + r.count) text) && runs_on s (sequence_of h.sort h.back r.back) (backward text place)))

-- what they ask of the source
pub record FineParts (s : List ℕ) (h : How) (r : RuleParts) : Type 0 where
  pub count : r.count ≤ 65536
  pub back : Fine s (sequence_of h.sort h.back r.back)
  pub input : Fine s (sequence_of h.sort h.input r.input)
  pub ahead : Fine s (sequence_of h.sort h.ahead r.ahead)
