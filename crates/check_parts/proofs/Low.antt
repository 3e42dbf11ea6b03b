-- No part has a fault before its own start.
use Prim.Native.Nat.{ℕ, zero, suc, ◌+◌, ◌≤◌}
use mathlib.Core.Bool.{Bool, true, false, cond}
use Rattle.std.specs.Prelude.{Option, None, Some}
use mathlib.Core.List.{List}
use native.Mathlib.Omega.{arith}
use lib.Dec.{leb, eqb}
use Rattle.meaning.specs.Words.{word}
use Rattle.meaning.specs.Fault.{lowest, fault_through, coverage_fault, classes_fault, rule_fault, ligature_fault, set_fault, pair_set_fault}
use Rattle.faults.specs.Low.{From, from_none, from_cond, from_part, from_rule, from_ligature}
use Rattle.check_parts.specs.Parts.{fault_of_part}
use Rattle.check_parts.specs.declared.Part.{Part}
use Rattle.check_parts.specs.declared.Part.TheVariants.{Coverage, Classes, Rules, ChainedRules, Ligatures, Pairs}

from_later : (a b : ℕ) (o : Option ℕ) → a ≤ b → From b o → From a o
from_later a b None h k = from_none a
from_later a b (Some p) h k = record { least = omega (arith, k.least) }

from_lowest : (at : ℕ) (o p : Option ℕ) → From at o → From at p → From at (lowest o p)
unfolding lowest
from_lowest at None p h k = k
from_lowest at (Some x) None h k = h
from_lowest at (Some x) (Some y) h k = step (leb x y)
  where
    step : (b : Bool) → From at (Some (cond b x y))
    step true = h
    step false = k

from_through : (fault_at : ℕ → Option ℕ) → ((p : ℕ) → From p (fault_at p)) → (s : List ℕ) (base slot n : ℕ) → From base (fault_through fault_at s base slot n)
unfolding fault_through
from_through fault_at h s base slot zero = from_none base
from_through fault_at h s base slot (suc n) =
    from_lowest base (cond (eqb (word s slot) 0) None (fault_at (base + word s slot))) (fault_through fault_at s base (slot + 2) n)
    (from_cond base (eqb (word s slot) 0) (from_none base) (from_later base (base + word s slot) (fault_at (base + word s slot)) (omega arith) (h (base + word s slot))))
    (from_through fault_at h s base (slot + 2) n)

from_set : (fault_at : ℕ → Option ℕ) → ((p : ℕ) → From p (fault_at p)) → (s : List ℕ) (at : ℕ) → From at (set_fault fault_at s at)
unfolding set_fault
from_set fault_at h s at = from_part at _ (from_through fault_at h s at (at + 2) (word s at))

pub from_start : (part : Part) (s : List ℕ) (at : ℕ) → From at (fault_of_part part s at)
unfolding coverage_fault classes_fault pair_set_fault
from_start Coverage s at = from_part at _ (from_none at)
from_start Classes s at = from_part at _ (from_none at)
from_start Rules s at = from_set (rule_fault false s) (from_rule false s) s at
from_start ChainedRules s at = from_set (rule_fault true s) (from_rule true s) s at
from_start Ligatures s at = from_set (ligature_fault s) (from_ligature s) s at
from_start Pairs s at = from_part at _ (from_none at)
