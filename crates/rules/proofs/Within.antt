-- The loop over the places of a rule's records, and what it says of the rule.
use Prim.Native.Nat.{ℕ, ◌+◌, ◌-◌, ◌*◌, ◌≤◌, ◌<◌}
use mathlib.Core.Path.{◌≡◌}
use mathlib.Core.Bool.{Bool, true, false, ◌&&◌}
use mathlib.Core.List.{List}
use native.Mathlib.Omega.{arith}
use lib.Dec.{ltb}
use borrow.Author.Tests.{lt-ltb, le-ltb}
use Rattle.meaning.specs.Words.{word, entries, every}
use Rattle.meaning.specs.Tables.{rule}
use Rattle.meaning.specs.Records.{indexes_below, rule_within}
use Rattle.laws.specs.Left.{entries_left, entries_all, entries_none}
use Rattle.rules.specs.Parts.{IsRule}
use Rattle.rules.specs.declared.RuleParts.{RuleParts}

-- What the loop of `indexes_below` keeps: whether the records from the i-th on have places below the count is whether all have.
pub record Below (count : ℕ) (s : List ℕ) (at n i : ℕ) : Type 0 where
  pub within : i ≤ n
  pub left : indexes_below count (entries s (at + 4 * i) (n - i)) ≡ indexes_below count (entries s at n)

module _ (count : ℕ) (s : List ℕ) (at n : ℕ) where
  below_turn : (i : ℕ) → i < n → indexes_below count (entries s (at + 4 * i) (n - i)) ≡ ltb (word s (at + 4 * i)) count && indexes_below count (entries s (at + 4 * (i + 1)) (n - (i + 1)))
  unfolding indexes_below every
  below_turn i h = rw (entries_left s at n i h)

module _ {count : ℕ} {s : List ℕ} {at n : ℕ} where
  pub below_all : Below count s at n 0
  below_all = record { within = omega arith; left = rw (entries_all s at n) }

  module _ {i x : ℕ} (k : Below count s at n i) (h : i < n) (e : x ≡ word s (at + 4 * i)) where
    pub below_next : x < count → Below count s at n (i + 1)
    below_next l = record { within = omega arith; left = rw (below_turn count s at n i h, ← e, lt-ltb x count l) at k.left }

    -- a place at the count or past it settles it
    pub below_past : count ≤ x → false ≡ indexes_below count (entries s at n)
    below_past l = rw (below_turn count s at n i h, ← e, le-ltb x count l) at k.left

  pub below_end : {i : ℕ} → Below count s at n i → n ≤ i → true ≡ indexes_below count (entries s at n)
  unfolding indexes_below every
  below_end {i} k h = rw (entries_none s (at + 4 * i) n i h) at k.left

-- the records that a rule's parts name are the rule's
pub rule_places : {chained : Bool} {s : List ℕ} {at : ℕ} {r : RuleParts} {b : Bool} → IsRule chained s at r → b ≡ indexes_below r.count (entries s r.records.at r.records.len)
    → b ≡ rule_within (rule chained s at)
unfolding rule_within
rule_places k e = rw (← k.count, ← k.records) e
