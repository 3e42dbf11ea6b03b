-- A number spelled in decimal, from its last digit to its first.
use Prim.Native.Nat.{ℕ, zero, suc, ◌+◌, ◌-◌, ◌*◌, ◌/◌, ◌%◌, ◌≤◌, ◌<◌}
use mathlib.Core.Path.{◌≡◌, ap, ◌∙◌}
use mathlib.Core.List.{List, ◌∷◌}
use native.Mathlib.Nat.{add-zero}
use native.Mathlib.Omega.{arith}
use lib.ListN.{length, set, drop, length-set, drop_of_length-le}
use lib.Seq.{drop-cons, drop-set-add}
use borrow.Author.Tests.{lt-ltb, le-ltb}
use Rattle.meaning.specs.Job.{digits, decimal}
use Rattle.report_lines.specs.Text.{Spelled}

-- what stands from the place of a store on
stored : (l : List ℕ) (i x : ℕ) → i < length l → drop i (set l i x) ≡ x ∷ drop (suc i) l
stored l i x h = rw add-zero at (drop-set-add i l 0 x) ∙ ap (λ (k : List ℕ). set k 0 x) (drop-cons l i 0 h)

-- the first number that has more digits than k
pub tens : ℕ → ℕ
tens zero = 1
tens (suc k) = 10 * tens k

-- What the loop of `spell` keeps: what is left to spell, before what is spelled, is the whole number.
pub record Spelling (n : ℕ) (small : List ℕ) (at left : ℕ) : Type 0 where
  pub some : 0 < at
  pub within : at ≤ 20
  pub long : length small ≡ 20
  pub fits : left < tens at
  pub rest : digits at left (drop at small) ≡ decimal n

pub spelling_all : {n : ℕ} {small : List ℕ} → length small ≡ 20 → n < 0x1_0000_0000_0000_0000 → Spelling n small 20 n
unfolding tens decimal
spelling_all {n} {small} e h = record {
  some = omega arith;
  within = omega arith;
  long = e;
  fits = omega arith;
  rest = ap (digits 20 n) (drop_of_length-le small {i = 20} (omega arith));
}

-- one digit of several
pub spelling_turn : {n : ℕ} {small : List ℕ} {at left : ℕ} → Spelling n small at left → 10 ≤ left → Spelling n (set small (at - 1) (48 + left % 10)) (at - 1) (left / 10)
unfolding tens digits
spelling_turn {at = zero} k h = absurd (omega (arith, k.some))
spelling_turn {at = suc zero} k h = absurd (omega (arith, k.fits))
spelling_turn {n = n} {small = small} {at = suc (suc p)} {left = left} k h =
    let e : suc (suc p) - 1 ≡ suc p = omega arith in
    rw e (record {
      some = omega arith;
      within = omega (arith, k.within);
      long = length-set small (suc p) (48 + left % 10) ∙ k.long;
      fits = omega (arith, k.fits);
      rest = rw (stored small (suc p) (48 + left % 10) (omega (arith, k.within, k.long))) (rw (le-ltb left 10 h) at k.rest);
    })

-- the first digit
pub spelling_end : {n : ℕ} {small : List ℕ} {at left : ℕ} → Spelling n small at left → left < 10 → Spelled n (set small (at - 1) (48 + left)) (at - 1)
unfolding digits
spelling_end {at = zero} k h = absurd (omega (arith, k.some))
spelling_end {n = n} {small = small} {at = suc p} {left = left} k h =
    let e : suc p - 1 ≡ p = omega arith in
    rw e (record {
      within = omega (arith, k.within);
      long = length-set small p (48 + left) ∙ k.long;
      digits = stored small p (48 + left) (omega (arith, k.within, k.long)) ∙ (rw (lt-ltb left 10 h) at k.rest);
    })
