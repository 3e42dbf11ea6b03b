-- Marks of the numbers of an ascending list: the rank of a number is its place in the list.
use Prim.Native.Nat.{ℕ, zero, suc, ◌+◌, ◌-◌, ◌/◌, ◌≤◌, ◌<◌}
use Rattle.std.specs.Prelude.{◌≡◌, Bool, length, None, Some}
use Rattle.std.proofs.Math.Path.{refl, sym}
use Rattle.std.proofs.Common.{ap, ◌∙◌, inl, add-zero}
use mathlib.Core.List.{List, [], ◌∷◌}
use Rattle.std.proofs.Math.Bool.{true, false, cond}
use Rattle.std.proofs.Math.Decide.{dec_lt}
use native.Mathlib.Omega.{arith}
use Rattle.std.proofs.Math.Dec.{eqb}
use borrow.Author.Tests.{eq-eqb, ne_eqb, eqb-true, eqb-false}
use Rattle.meaning.specs.Words.{find, member}
use Rattle.meaning.specs.Cut.{numbered}
use Rattle.laws.specs.Runs.{Up}
use Rattle.laws.specs.Stands.{Word, All}
use Rattle.laws.specs.CutCells.{find_low}
use Rattle.bits.specs.Bits.{marked}
use Rattle.bits.specs.Reading.{same_cell}
use Rattle.ranks.specs.Ranks.{marks_below, Counted}

-- the marked numbers are those of l, which ascend and are words
pub record MarksOf (t : List ℕ) (at : ℕ) (l : List ℕ) : Type 0 where
  pub up : Up 0 l
  pub words : All Word l
  pub each : (x : ℕ) → x < 65536 → marked t at x ≡ member x l

-- a number below all is no member; the first is one; a later one is one of the others
pub low_none : (low x : ℕ) (l : List ℕ) → Up low l → x < low → member x l ≡ false
unfolding member
low_none low x [] u h = refl
low_none low x (c ∷ l) u h = rw (ne_eqb c x (λ e. omega arith)) (low_none (c + 1) x l u.1 (omega arith))

first_in : (c : ℕ) (l : List ℕ) → member c (c ∷ l) ≡ true
unfolding member
first_in c l = rw (eq-eqb c c refl)

later_in : (c x : ℕ) (l : List ℕ) → c < x → member x (c ∷ l) ≡ member x l
unfolding member
later_in c x l h = rw (ne_eqb c x (λ e. omega arith))

none_in : (x : ℕ) → member x [] ≡ false
unfolding member
none_in x = refl

-- Ranks are counted on from a number `low`: those of the list's numbers from there on.
module _ (t : List ℕ) (at : ℕ) where
  -- numbers without a mark add nothing to the count, and one with a mark adds one
  marks_none : (low n : ℕ) → ((y : ℕ) → low ≤ y → y < low + n → marked t at y ≡ false) → marks_below t at (low + n) ≡ marks_below t at low
  unfolding marks_below
  marks_none low zero h = rw (add-zero low)
  marks_none low (suc n) h =
      let e : low + suc n ≡ suc (low + n) = omega arith in
      rw (e, h (low + n) (omega arith) (omega arith)) (omega (arith, marks_none low n (λ y a b. h y a (omega arith))))

  marks_one : (c : ℕ) → marked t at c ≡ true → marks_below t at (c + 1) ≡ marks_below t at c + 1
  unfolding marks_below
  marks_one c h =
      let e : c + 1 ≡ suc c = omega arith in
      rw (e, h) (omega arith)

  -- up to the first number of the list, and past it
  marks_first : (low end c : ℕ) (l : List ℕ) → Up low (c ∷ l) → c < end → ((y : ℕ) → low ≤ y → y < end → marked t at y ≡ member y (c ∷ l))
      → (marks_below t at c ≡ marks_below t at low) × (marks_below t at (c + 1) ≡ marks_below t at low + 1)
  marks_first low end c l u b h =
      let e : low + (c - low) ≡ c = omega (arith, u.0) in
      let n : marks_below t at c ≡ marks_below t at low = rw e at (marks_none low (c - low) (λ y p q. h y p (omega arith) ∙ low_none c y (c ∷ l) (omega arith, u.1) (omega arith))) in
      (n, marks_one c (h c u.0 b ∙ first_in c l) ∙ ap (λ (k : ℕ). k + 1) n)

  rank_from : (k low x : ℕ) (l : List ℕ) → Up low l → k ≡ marks_below t at low → low ≤ x → ((y : ℕ) → low ≤ y → y < x + 1 → marked t at y ≡ member y l)
      → find (numbered k l) x ≡ cond (marked t at x) (Some (marks_below t at x)) None
  unfolding find numbered
  rank_from k low x [] u e b h = rw (h x b (omega arith) ∙ none_in x)
  rank_from k low x (c ∷ l) u e b h = step (dec_lt x c) (eqb c x) refl (λ f. rank_from (k + 1) (c + 1) x l u.1 f)
    where
      step : Dec (x < c) → (q : Bool) → eqb c x ≡ q
          → (k + 1 ≡ marks_below t at (c + 1) → c + 1 ≤ x → ((y : ℕ) → c + 1 ≤ y → y < x + 1 → marked t at y ≡ member y l) → find (numbered (k + 1) l) x ≡ cond (marked t at x) (Some (marks_below t at x)) None)
          → cond q (Some k) (find (numbered (k + 1) l) x) ≡ cond (marked t at x) (Some (marks_below t at x)) None
      step (yes p) true f r = absurd (omega (arith, eqb-true c x f))
      step (yes p) false f r = rw (h x b (omega arith) ∙ low_none c x (c ∷ l) (omega arith, u.1) p) (find_low (k + 1) x l (c + 1) u.1 (omega arith))
      step (no p) true f r =
          let g : c ≡ x = eqb-true c x f in
          let m = marks_first low (x + 1) c l u (omega arith) h in
          rw (← g, h c u.0 (omega arith) ∙ first_in c l) (ap Some (e ∙ sym m.0))
      step (no p) false f r =
          let g : c ≡ x → ⊥ = eqb-false c x f in
          let m = marks_first low (x + 1) c l u (omega arith) h in
          r (omega (arith, m.1)) (omega arith) (λ y a d. h y (omega (arith, u.0)) d ∙ later_in c y l (omega arith))

  count_from : (low end : ℕ) (l : List ℕ) → Up low l → All (λ x. x < end) l → low ≤ end → ((y : ℕ) → low ≤ y → y < end → marked t at y ≡ member y l)
      → marks_below t at end ≡ marks_below t at low + length l
  count_from low end [] u w b h =
      let e : low + (end - low) ≡ end = omega arith in
      rw e at (marks_none low (end - low) (λ y p q. h y p (omega arith) ∙ none_in y)) ∙ sym (add-zero (marks_below t at low))
  count_from low end (c ∷ l) u w b h =
      let m = marks_first low end c l u w.0 h in
      let r = count_from (c + 1) end l u.1 w.1 (omega (arith, w.0)) (λ y a d. h y (omega (arith, u.0)) d ∙ later_in c y l (omega arith)) in
      omega (arith, m.1, r)

-- a number past all is not found
find_high : (k n x : ℕ) (l : List ℕ) → All (λ c. c < n) l → n ≤ x → find (numbered k l) x ≡ None
unfolding find numbered
find_high k n x [] w h = refl
find_high k n x (c ∷ l) w h = rw (ne_eqb c x (λ e. omega (arith, w.0))) (find_high (k + 1) n x l w.1 h)

none_below : (t : List ℕ) (at : ℕ) → 0 ≡ marks_below t at 0
unfolding marks_below
none_below t at = refl

module _ {t : List ℕ} {at : ℕ} {l : List ℕ} (m : MarksOf t at l) where
  -- a word is found by its mark, and its number is its rank
  pub ranks_found : (x : ℕ) → x < 65536 → find (numbered 0 l) x ≡ cond (marked t at x) (Some (marks_below t at x)) None
  ranks_found x h = rank_from t at 0 0 x l m.up (none_below t at) (omega arith) (λ y a b. m.each y (omega arith))

  -- no other number is found
  pub ranks_past : (x : ℕ) → 65536 ≤ x → find (numbered 0 l) x ≡ None
  ranks_past x h = find_high 0 65536 x l m.words h

  -- there are as many marks as numbers
  pub marks_all : marks_below t at 65536 ≡ length l
  marks_all = omega (arith, count_from t at 0 65536 l m.up m.words (omega arith) (λ y a b. m.each y b), none_below t at)

-- What `count_marks` says to its callers: the marks stand, and r is how many numbers the list has.
module _ {t₀ t : List ℕ} {at r : ℕ} {l : List ℕ} (c : Counted t₀ t at r) (m : MarksOf t₀ at l) where
  pub counted_marks : MarksOf t at l
  counted_marks = record { up = m.up; words = m.words; each = λ x h. same_cell t₀ t at x (c.cells (at + x / 32) (inl (omega arith))) ∙ m.each x h }

  pub counted_length : r ≡ length l
  counted_length = c.all ∙ marks_all counted_marks
