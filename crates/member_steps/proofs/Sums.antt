-- Sums that are cut off, and the loop over a rule's records.
use Prim.Native.Nat.{ℕ, zero, suc, ◌+◌, ◌-◌, ◌*◌, ◌≤◌, ◌<◌}
use mathlib.Core.Path.{◌≡◌, refl, sym, ap, ◌∙◌}
use mathlib.Core.Bool.{cond}
use mathlib.Core.List.{List, [], ◌∷◌}
use native.Mathlib.Omega.{arith}
use native.Mathlib.Decide.{dec_lt}
use lib.ListN.{get_or, length, get_or-eq_default}
use lib.Dec.{ltb}
use borrow.Author.Tests.{lt-ltb, le-ltb}
use Rattle.meaning.specs.Words.{word, entries}
use Rattle.laws.specs.Left.{entries_left, entries_all, entries_none}
use Rattle.replaying.specs.Cost.{step_limit, cut_off, steps_of, record_steps}

pub cut_under : (n : ℕ) → n ≤ step_limit → cut_off n ≡ n
unfolding cut_off
cut_under n h = step (dec_lt n step_limit)
  where
    step : Dec (n < step_limit) → cond (ltb n step_limit) n step_limit ≡ n
    step (yes l) = rw (lt-ltb n step_limit l)
    step (no l) =
        let e : step_limit ≤ n = omega arith in
        rw (le-ltb n step_limit e) (omega arith)

pub cut_over : (n : ℕ) → step_limit ≤ n → cut_off n ≡ step_limit
unfolding cut_off
cut_over n h = rw (le-ltb n step_limit h)

pub cut_small : (n : ℕ) → cut_off n ≤ step_limit
cut_small n = step (dec_lt n step_limit)
  where
    step : Dec (n < step_limit) → cut_off n ≤ step_limit
    step (yes l) = omega (arith, cut_under n (omega arith))
    step (no l) = omega (arith, cut_over n (omega arith))

-- what is cut off twice is cut off
pub cut_left : (a b : ℕ) → cut_off (cut_off a + b) ≡ cut_off (a + b)
cut_left a b = step (dec_lt a step_limit)
  where
    step : Dec (a < step_limit) → cut_off (cut_off a + b) ≡ cut_off (a + b)
    step (yes l) = ap (λ (n : ℕ). cut_off (n + b)) (cut_under a (omega arith))
    step (no l) =
        let e : step_limit ≤ a = omega arith in
        let f = cut_over a e in
        cut_over (cut_off a + b) (omega arith) ∙ sym (cut_over (a + b) (omega arith))

pub cut_right : (a b : ℕ) → cut_off (a + cut_off b) ≡ cut_off (a + b)
cut_right a b =
    let e : a + cut_off b ≡ cut_off b + a = omega arith in
    let f : b + a ≡ a + b = omega arith in
    ap cut_off e ∙ cut_left b a ∙ ap cut_off f

-- how the code tells a sum that is cut off
pub sum_over : (a b : ℕ) → a ≤ step_limit → 0x8000_0000_0000_0000 - a ≤ b → (0x8000_0000_0000_0000 ≡ cut_off (a + b)) × (0x8000_0000_0000_0000 ≤ step_limit)
unfolding step_limit
sum_over a b h k = (sym (cut_over (a + b) (omega arith)), omega arith)

pub sum_under : (a b : ℕ) → a ≤ step_limit → b < 0x8000_0000_0000_0000 - a → (a + b ≡ cut_off (a + b)) × (a + b ≤ step_limit)
unfolding step_limit
sum_under a b h k =
    let l : a + b ≤ 0x8000_0000_0000_0000 = omega arith in
    (sym (cut_under (a + b) l), l)

-- the limit as the code has it
pub limit_is : step_limit ≡ 0x8000_0000_0000_0000
unfolding step_limit
limit_is = refl

-- what a lookup takes by its place
pub steps_in : (steps : List ℕ) (n : ℕ) → n < length steps → get_or steps n 0 ≡ steps_of steps n
unfolding steps_of
steps_in [] n h = absurd (omega arith)
steps_in (x ∷ steps) zero h = refl
steps_in (x ∷ steps) (suc n) h = steps_in steps n (omega arith)

pub steps_past : (steps : List ℕ) (n : ℕ) → length steps ≤ n → 1 ≡ steps_of steps n
unfolding steps_of
steps_past steps n h = sym (get_or-eq_default steps 1 h)

pub record_small : (steps : List ℕ) (rs : List (ℕ × ℕ)) → record_steps steps rs ≤ step_limit
unfolding record_steps
record_small steps [] = omega arith
record_small steps (r ∷ rs) = cut_small (steps_of steps r.1 + record_steps steps rs)

-- What the loop over records keeps: the sum so far and what those that are left take give the whole.
pub record Adding (steps s : List ℕ) (at n sum i : ℕ) : Type 0 where
  pub within : i ≤ n
  pub small : sum ≤ step_limit
  pub left : cut_off (sum + record_steps steps (entries s (at + 4 * i) (n - i))) ≡ record_steps steps (entries s at n)

module _ {steps s : List ℕ} {at n : ℕ} where
  pub adding_all : Adding steps s at n 0 0
  adding_all =
      let all = record_steps steps (entries s at n) in
      let e : 0 + all ≡ all = omega arith in
      record { within = omega arith; small = omega arith; left = rw (entries_all s at n) (ap cut_off e ∙ cut_under all (record_small steps (entries s at n))) }

  pub adding_next : {sum i w one next : ℕ} → Adding steps s at n sum i → i < n → w ≡ word s (at + 4 * i + 2) → one ≡ steps_of steps w → (next ≡ cut_off (sum + one)) × (next ≤ step_limit)
      → Adding steps s at n next (i + 1)
  unfolding record_steps
  adding_next {sum} {i} {w} {one} {next} k h e f g =
      let rest = record_steps steps (entries s (at + 4 * (i + 1)) (n - (i + 1))) in
      let l : cut_off (sum + cut_off (one + rest)) ≡ record_steps steps (entries s at n) = rw (f, e) (rw (entries_left s at n i h) at k.left) in
      let m : sum + (one + rest) ≡ sum + one + rest = omega arith in
      record {
        within = omega arith;
        small = g.1;
        left = ap (λ (x : ℕ). cut_off (x + rest)) g.0 ∙ cut_left (sum + one) rest ∙ sym (cut_right sum (one + rest) ∙ ap cut_off m) ∙ l;
      }

  pub adding_end : {sum i : ℕ} → Adding steps s at n sum i → n ≤ i → sum ≡ record_steps steps (entries s at n)
  unfolding record_steps
  adding_end {sum} {i} k h =
      let e : cut_off (sum + 0) ≡ record_steps steps (entries s at n) = rw (entries_none s (at + 4 * i) n i h) at k.left in
      let z : sum + 0 ≡ sum = omega arith in
      sym (ap cut_off z ∙ cut_under sum k.small) ∙ e
