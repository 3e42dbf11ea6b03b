-- What a fault that was found says of the parts that are still to be checked: none has a fault before its own start, so that what starts at that place or after it has no lower one.
use Rattle.std.specs.Prelude.{ℕ, ◌≤◌, ◌≡◌, refl, Bool, true, false, cond, List, leb, Option, None, Some, unwrap_or}
use Rattle.std.proofs.Common.{sym, true≢false, arith, leb-true, le-leb}
use Rattle.meaning.specs.Fault.{lowest, part_fault, rule_sound, rule_fault, ligature_fault}

-- a fault was found at a place or before it
abbrev pub found_before : Option ℕ → ℕ → Bool
found_before (Some p) at = leb p at
found_before None at = false

-- a place, where there is one, is `at` or after it
pub record From (at : ℕ) (o : Option ℕ) : Type 0 where
  pub least : at ≤ unwrap_or o at

pub from_none : (at : ℕ) → From at None
from_none at = record { least = omega arith }

pub from_cond : (at : ℕ) (t : Bool) {o p : Option ℕ} → From at o → From at p → From at (cond t o p)
from_cond at true h k = h
from_cond at false h k = k

-- a part that reaches no fault before its own start has none before it
pub from_part : (at : ℕ) (sound : Bool) {reached : Option ℕ} → From at reached → From at (part_fault at sound reached)
unfolding part_fault
from_part at sound h = from_cond at sound h (record { least = omega arith })

-- a rule and a ligature reach no other part
pub from_rule : (chained : Bool) (s : List ℕ) (at : ℕ) → From at (rule_fault chained s at)
unfolding rule_fault
from_rule chained s at = from_part at (rule_sound chained s at) (from_none at)

pub from_ligature : (s : List ℕ) (at : ℕ) → From at (ligature_fault s at)
unfolding ligature_fault
from_ligature s at = from_part at _ (from_none at)

-- a fault that was found at a part's start or before it stays the lowest
pub none_lower : (low : Option ℕ) (at : ℕ) (o : Option ℕ) → From at o → found_before low at ≡ true → low ≡ lowest low o
unfolding lowest
none_lower None at o k h = absurd (true≢false (sym h))
none_lower (Some p) at None k h = refl
none_lower (Some p) at (Some q) k h = rw (le-leb p q (omega (arith, leb-true p at h, k.least)))
