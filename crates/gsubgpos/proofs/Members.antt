-- The ways through the check of a set's members.
use Prim.Native.Nat.{ℕ, ◌+◌, ◌*◌, ◌<◌}
use mathlib.Core.Path.{◌≡◌, sym}
use mathlib.Core.Bool.{true, false}
use Rattle.std.specs.Prelude.{Option, None}
use mathlib.Core.List.{List}
use Rattle.meaning.specs.Words.{word}
use Rattle.laws.specs.FaultsLeft.{Checking, lowest_none}
use Rattle.faults.specs.Low.{From, from_rule, from_ligature}
use Rattle.faults.specs.Reached.{lowest_part}
use Rattle.gsubgpos.specs.Members.{member_fault}
use Rattle.gsubgpos.specs.declared.Member.{Member}
use Rattle.gsubgpos.specs.declared.Member.TheVariants.{Rule, ChainedRule, Ligature}

-- no member has a fault before its own start
pub from_member : (member : Member) (s : List ℕ) (at : ℕ) → From at (member_fault member s at)
from_member Rule s at = from_rule false s at
from_member ChainedRule s at = from_rule true s at
from_member Ligature s at = from_ligature s at

-- past an offset that reaches a member without a fault
pub lowest_sound : {fault_at : ℕ → Option ℕ} {s : List ℕ} {base slot n : ℕ} {low : Option ℕ} {i off : ℕ} → Checking fault_at s base slot n low i → i < n → off ≡ word s (slot + 2 * i) → (off ≡ 0 → ⊥) → fault_at (base + off) ≡ None
    → Checking fault_at s base slot n low (i + 1)
lowest_sound {low = low} k h e z m = lowest_part k h e z (sym m) (sym (lowest_none low))
