-- What is known of a single substitution that has no fault.
use Prim.Native.Nat.{ℕ, ◌+◌, ◌*◌, ◌≤◌}
use mathlib.Core.Path.{◌≡◌, sym, ◌∙◌}
use mathlib.Core.Bool.{true}
use Rattle.std.specs.Prelude.{None}
use mathlib.Core.List.{List}
use native.Mathlib.Nat.{zero-add}
use native.Mathlib.Omega.{arith}
use lib.ListN.{length}
use borrow.Author.Tests.{ne_eqb, eqb-true, leb-true}
use Rattle.meaning.specs.Words.{word, inside}
use Rattle.meaning.specs.Parts.{coverage, coverage_sound}
use Rattle.meaning.specs.Fault.{fault_through, coverage_fault, equal_count, single_fault}
use Rattle.laws.specs.Runs.{both}
use Rattle.laws.specs.FaultsLeft.{lowest_none}
use Rattle.laws.specs.SoundGood.{part_sound}
use Rattle.single_checks.specs.Header.{good_header}

-- a table with no fault whose coverage is not null
pub record Good (s : List ℕ) : Type 0 where
  pub head : 6 ≤ length s
  pub cover : coverage_sound s (word s 2) ≡ true
  pub listed : (word s 0 ≡ 1 → ⊥) → (6 + 2 * word s 4 ≤ length s) × (length (coverage s (word s 2)) ≡ word s 4)

cover_of : (s : List ℕ) → fault_through (coverage_fault s) s 0 2 1 ≡ None → (word s 2 ≡ 0 → ⊥) → coverage_sound s (word s 2) ≡ true
unfolding fault_through coverage_fault
cover_of s h z = (part_sound (word s 2) (coverage_sound s (word s 2)) None (sym (lowest_none _) ∙ (rw (ne_eqb (word s 2) 0 z, zero-add) at h))).0

pub header_inside : (s : List ℕ) → single_fault s ≡ None → 6 ≤ length s
unfolding single_fault inside
header_inside s h = let p = part_sound 0 (good_header s) (fault_through (coverage_fault s) s 0 2 1) h in omega (arith, leb-true (0 + 6) (length s) (both (inside s 0 6) _ p.0).0)

pub good_table : (s : List ℕ) → single_fault s ≡ None → (word s 2 ≡ 0 → ⊥) → Good s
unfolding single_fault inside equal_count
good_table s h z =
    let p = part_sound 0 (good_header s) (fault_through (coverage_fault s) s 0 2 1) h in
    let q = both (inside s 0 6) _ p.0 in
    let c = cover_of s p.1 z in
    record {
      head = omega (arith, leb-true (0 + 6) (length s) q.0);
      cover = c;
      listed = λ n. step c (both (inside s 6 (2 * word s 4)) (equal_count s (word s 4)) (rw (ne_eqb (word s 0) 1 n) at q.1));
    }
  where
    step : coverage_sound s (word s 2) ≡ true → (inside s 6 (2 * word s 4) ≡ true) × (equal_count s (word s 4) ≡ true) → (6 + 2 * word s 4 ≤ length s) × (length (coverage s (word s 2)) ≡ word s 4)
    step c t = (leb-true (6 + 2 * word s 4) (length s) t.0, eqb-true (length (coverage s (word s 2))) (word s 4) (rw (ne_eqb (word s 2) 0 z, c) at t.1))
