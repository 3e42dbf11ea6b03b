-- Marks of the places of parts whose faults were counted: none at first, and one more.
use Prim.Native.Nat.{ℕ, ◌+◌, ◌*◌, ◌<◌}
use mathlib.Core.Path.{◌≡◌, refl, sym, ap, ◌∙◌}
use mathlib.Core.Bool.{Bool, true, false, cond, true≢false}
use Rattle.std.specs.Prelude.{Option, None, Some}
use mathlib.Core.List.{List}
use native.Mathlib.Omega.{arith}
use lib.ListN.{replicate}
use lib.Dec.{eqb, leb}
use borrow.Author.Tests.{eqb-true, eqb-false, leb-true, leb-false}
use native.Mathlib.Nat.{zero-add}
use Rattle.meaning.specs.Words.{word}
use Rattle.meaning.specs.Fault.{lowest}
use Rattle.laws.specs.FaultsLeft.{Checking, lowest_assoc}
use Rattle.bits.specs.Bits.{marked, Put}
use Rattle.bits.specs.Reading.{none_marked}
use Rattle.faults.specs.Reached.{lowest_part}
use Rattle.check_parts.specs.Seen.{Seen}

-- the lower of a place and itself, and of two places in either order
lowest_same : (a : Option ℕ) → lowest a a ≡ a
unfolding lowest
lowest_same None = refl
lowest_same (Some p) = ap Some (step (leb p p) refl)
  where
    step : (b : Bool) → leb p p ≡ b → cond b p p ≡ p
    step true e = refl
    step false e = refl

lowest_swap : (a b : Option ℕ) → lowest a b ≡ lowest b a
unfolding lowest
lowest_swap None None = refl
lowest_swap None (Some q) = refl
lowest_swap (Some p) None = refl
lowest_swap (Some p) (Some q) = ap Some (step (leb p q) refl (leb q p) refl)
  where
    step : (b : Bool) → leb p q ≡ b → (d : Bool) → leb q p ≡ d → cond b p q ≡ cond d q p
    step true e true f = omega (arith, leb-true p q e, leb-true q p f)
    step true e false f = refl
    step false e true f = refl
    step false e false f = omega (arith, leb-false p q e, leb-false q p f)

-- what was counted stays so as the lowest falls
lowest_kept : (a b c : Option ℕ) → lowest a b ≡ a → lowest (lowest a c) b ≡ lowest a c
lowest_kept a b c e =
    lowest_assoc a c b ∙ ap (lowest a) (lowest_swap c b) ∙ sym (lowest_assoc a b c) ∙ ap (λ (x : Option ℕ). lowest x c) e

lowest_twice : (a b : Option ℕ) → lowest (lowest a b) b ≡ lowest a b
lowest_twice a b = lowest_assoc a b b ∙ ap (lowest a) (lowest_same b)

module _ {fault_at : ℕ → Option ℕ} {low : Option ℕ} where
  -- zeros mark no part
  pub none_seen : (n : ℕ) → Seen fault_at low (replicate n 0)
  none_seen n = record { counted = λ p m. absurd (true≢false (sym m ∙ none_marked n 0 p)) }

  -- a part whose fault is counted gets a mark
  pub seen_more : {marks next : List ℕ} {r : Option ℕ} (at : ℕ) → Seen fault_at low marks → r ≡ lowest low (fault_at at) → Put 0 at marks next → Seen fault_at r next
  seen_more {marks} {next} {r} at k g e = record { counted = λ p m. step p (eqb p at) refl m }
    where
      step : (p : ℕ) (b : Bool) → eqb p at ≡ b → marked next 0 p ≡ true → lowest r (fault_at p) ≡ r
      step p true q m = rw (eqb-true p at q, g) (lowest_twice low (fault_at at))
      step p false q m = rw g (lowest_kept low (fault_at p) (fault_at at) (k.counted p (sym (e.others p (eqb-false p at q)) ∙ m)))

-- a loop over offsets past a part that was counted
pub reached_once : {fault_at : ℕ → Option ℕ} {s : List ℕ} {slot n : ℕ} {low : Option ℕ} {i off : ℕ} → Checking fault_at s 0 slot n low i → i < n → off ≡ word s (slot + 2 * i) → (off ≡ 0 → ⊥)
    → {r : Option ℕ} → r ≡ lowest low (fault_at off) → Checking fault_at s 0 slot n r (i + 1)
reached_once {fault_at} {off = off} k h e z g = lowest_part k h e z (ap fault_at (sym (zero-add off))) g
