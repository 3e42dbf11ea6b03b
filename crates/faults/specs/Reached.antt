-- What a negated test says, and the ways through the check of a part that reaches others through offsets, for each crate that has such a check.
use Rattle.std.specs.Prelude.{ℕ, ◌+◌, ◌*◌, ◌<◌, ◌≡◌, refl, Bool, true, false, not, List, Option, Some}
use Rattle.std.proofs.Common.{sym, ◌∙◌}
use Rattle.std.proofs.lemmas.Bool.{not-true, not-false}
use Rattle.meaning.specs.Words.{word, inside}
use Rattle.meaning.specs.Fault.{lowest, part_fault, fault_through, set_fault}
use Rattle.laws.specs.FaultsLeft.{Checking, checking_part}
use Rattle.faults.specs.Low.{found_before, From, none_lower}

-- what a callee's answer says of what it stands for, where a test of its negation was taken, or left
pub refused : {b o : Bool} → b ≡ o → not b ≡ true → o ≡ false
refused {b} e h = sym e ∙ not-true b h

pub passed : {b o : Bool} → b ≡ o → not b ≡ false → o ≡ true
passed {b} e h = sym e ∙ not-false b h

-- A loop over offsets keeps that the lowest fault so far and the lowest among the rest give the whole (`Checking`). Past one that reaches a part:
module _ {fault_at : ℕ → Option ℕ} {s : List ℕ} {base slot n : ℕ} {low : Option ℕ} {i off : ℕ} (k : Checking fault_at s base slot n low i) (h : i < n) (e : off ≡ word s (slot + 2 * i)) (z : off ≡ 0 → ⊥) where
  -- the part's fault may be the lowest
  pub lowest_part : {a r : Option ℕ} → a ≡ fault_at (base + off) → r ≡ lowest low a → Checking fault_at s base slot n r (i + 1)
  lowest_part f g = rw (g, f) (checking_part fault_at s base slot n k h e z)

  -- one that starts at a fault that was found, or after it, has no lower one
  pub lowest_passed : From (base + off) (fault_at (base + off)) → found_before low (base + off) ≡ true → Checking fault_at s base slot n low (i + 1)
  lowest_passed f g = lowest_part refl (none_lower low (base + off) (fault_at (base + off)) f g)

module _ (fault_at : ℕ → Option ℕ) (s : List ℕ) (at : ℕ) where
  -- a set whose count does not lie inside
  pub set_head : {b : Bool} → b ≡ inside s at 2 → not b ≡ true → Some at ≡ set_fault fault_at s at
  unfolding set_fault part_fault
  set_head e h = rw (refused e h)

  module _ {b c : Bool} {n : ℕ} (e : b ≡ inside s at 2) (h : not b ≡ false) (f : n ≡ word s at) (g : c ≡ inside s (at + 2) (2 * n)) where
    -- one whose offsets do not
    pub set_offsets : not c ≡ true → Some at ≡ set_fault fault_at s at
    unfolding set_fault part_fault
    set_offsets k = rw (passed e h, ← f, refused g k)

    -- one that lies inside: its fault is that of the parts that it reaches
    pub set_parts : not c ≡ false → {r : Option ℕ} → r ≡ fault_through fault_at s at (at + 2) n → r ≡ set_fault fault_at s at
    unfolding set_fault part_fault
    set_parts k l = rw (passed e h, ← f, passed g k) l
