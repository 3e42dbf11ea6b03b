-- The larger of two numbers, the marks of rules that were counted, and the loops over offsets.
use Prim.Native.Nat.{ℕ, suc, ◌+◌, ◌-◌, ◌*◌, ◌≤◌, ◌<◌, max}
use mathlib.Core.Path.{◌≡◌, refl, sym, ap, ◌∙◌}
use mathlib.Core.Bool.{Bool, true, false, cond, true≢false}
use Rattle.std.specs.Prelude.{None, Some}
use mathlib.Core.List.{List, ◌∷◌}
use native.Mathlib.Omega.{arith}
use native.Mathlib.Decide.{dec_lt}
use native.Mathlib.Nat.{zero-add}
use lib.ListN.{replicate}
use lib.Dec.{eqb}
use borrow.Author.Tests.{lt-ltb, le-ltb, eqb-true, eqb-false, eq-eqb, ne_eqb}
use Rattle.meaning.specs.Words.{word}
use Rattle.meaning.specs.Tables.{reach, reaches, drop_null, rule, rule_set}
use Rattle.replaying.specs.Cost.{larger, largest, rule_steps, sets_steps}
use Rattle.bits.specs.Bits.{marked, Put}
use Rattle.bits.specs.Reading.{none_marked}
use Rattle.member_steps.specs.Most.{Counted}

-- the definition is the greater of two numbers
larger_max : (a b : ℕ) → larger a b ≡ max a b
unfolding larger
larger_max a b = step (dec_lt a b)
  where
    step : Dec (a < b) → larger a b ≡ max a b
    step (yes l) = rw (lt-ltb a b l) (omega arith)
    step (no l) = rw (le-ltb a b (omega arith)) (omega arith)

pub larger_first : (a b : ℕ) → b ≤ a → a ≡ larger a b
larger_first a b h = omega (arith, larger_max a b)

pub larger_above : (a b : ℕ) → (a ≤ larger a b) × (b ≤ larger a b)
larger_above a b = let e = larger_max a b in (omega arith, omega arith)

larger_assoc : (a b c : ℕ) → larger (larger a b) c ≡ larger a (larger b c)
larger_assoc a b c = omega (arith, larger_max a b, larger_max b c, larger_max (larger a b) c, larger_max a (larger b c))

larger_zero : (a : ℕ) → larger a 0 ≡ a
larger_zero a = omega (arith, larger_max a 0)

-- Marks: none at first, and one more.

module _ {chained : Bool} {s steps : List ℕ} {most : ℕ} where
  pub none_counted : (n : ℕ) → Counted chained s steps most (replicate n 0)
  none_counted n = record { counted = λ p m. absurd (true≢false (sym m ∙ none_marked n 0 p)) }

  -- a rule with a mark changes nothing
  pub counted_before : {marks : List ℕ} → Counted chained s steps most marks → (at : ℕ) → marked marks 0 at ≡ true → most ≡ larger most (rule_steps steps (rule chained s at))
  counted_before k at m = sym (k.counted at m)

  -- one that is counted gets a mark
  pub counted_more : {marks next : List ℕ} {r : ℕ} (at : ℕ) → Counted chained s steps most marks → r ≡ larger most (rule_steps steps (rule chained s at)) → Put 0 at marks next
      → Counted chained s steps r next
  counted_more {marks} {next} {r} at k g e = record { counted = λ p m. step p (eqb p at) refl m }
    where
      a : most ≤ r
      a = let x = larger_above most (rule_steps steps (rule chained s at)) in omega (arith, x.0)

      step : (p : ℕ) (b : Bool) → eqb p at ≡ b → marked next 0 p ≡ true → larger r (rule_steps steps (rule chained s p)) ≡ r
      step p true q m =
          let x = larger_above most (rule_steps steps (rule chained s at)) in
          rw (eqb-true p at q) (sym (larger_first r (rule_steps steps (rule chained s at)) (omega (arith, x.1))))
      step p false q m =
          let c = k.counted p (sym (e.others p (eqb-false p at q)) ∙ m) in
          let x = larger_above most (rule_steps steps (rule chained s p)) in
          sym (larger_first r (rule_steps steps (rule chained s p)) (omega (arith, a, x.1)))

-- What a loop over offsets keeps: the larger of the most so far and the most among the parts that are left is the whole.
pub record Topping {A : Type 0} (f : A → ℕ) (read : ℕ → A) (s : List ℕ) (base slot n first top i : ℕ) : Type 0 where
  pub within : i ≤ n
  pub left : larger top (largest f (drop_null (reaches read s base (slot + 2 * i) (n - i)))) ≡ larger first (largest f (drop_null (reaches read s base slot n)))

module _ {A : Type 0} {f : A → ℕ} {read : ℕ → A} {s : List ℕ} {base slot n first : ℕ} where
  pub topping_all : Topping f read s base slot n first first 0
  topping_all =
      let e : slot + 2 * 0 ≡ slot = omega arith in
      let d : n - 0 ≡ n = omega arith in
      record { within = omega arith; left = rw (e, d) }

  module _ {top i off : ℕ} (k : Topping f read s base slot n first top i) (h : i < n) (e : off ≡ word s (slot + 2 * i)) where
    abbrev rest : ℕ
    rest = largest f (drop_null (reaches read s base (slot + 2 * (i + 1)) (n - (i + 1))))

    turn : larger top (largest f (drop_null (cond (eqb off 0) None (Some (read (base + off))) ∷ reaches read s base (slot + 2 * (i + 1)) (n - (i + 1)))))
        ≡ larger first (largest f (drop_null (reaches read s base slot n)))
    unfolding reach reaches
    turn =
        let a : n - i ≡ suc (n - (i + 1)) = omega arith in
        let b : slot + 2 * (i + 1) ≡ slot + 2 * i + 2 = omega arith in
        rw (e, b) (rw a at k.left)

    -- a null offset reaches no part
    pub topping_null : off ≡ 0 → Topping f read s base slot n first top (i + 1)
    unfolding drop_null
    topping_null z = record { within = omega arith; left = rw (eq-eqb off 0 z) at turn }

    -- another reaches a part
    pub topping_part : (off ≡ 0 → ⊥) → {r : ℕ} → r ≡ larger top (f (read (base + off))) → Topping f read s base slot n first r (i + 1)
    unfolding drop_null largest
    topping_part z {r} g =
        let t = rw (ne_eqb off 0 z) at turn in
        record { within = omega arith; left = ap (λ (x : ℕ). larger x rest) g ∙ larger_assoc top (f (read (base + off))) rest ∙ t }

  pub topping_end : {top i : ℕ} → Topping f read s base slot n first top i → n ≤ i → top ≡ larger first (largest f (drop_null (reaches read s base slot n)))
  unfolding reaches drop_null largest
  topping_end {top} {i} k h =
      let e : n - i ≡ 0 = omega arith in
      sym (larger_zero top) ∙ (rw e at k.left)

-- What the loop over the rules of the set at `set` keeps: the most so far, and the marks of what was counted.
pub record InSet (chained : Bool) (s steps : List ℕ) (set n first top i : ℕ) (marks : List ℕ) : Type 0 where
  pub topping : Topping (rule_steps steps) (rule chained s) s set (set + 2) n first top i
  pub counted : Counted chained s steps top marks

module _ {chained : Bool} {s steps : List ℕ} {at n first : ℕ} where
  pub set_all : {marks : List ℕ} → Counted chained s steps first marks → InSet chained s steps at n first first 0 marks
  set_all k = record { topping = topping_all; counted = k }

  module _ {top i off : ℕ} {marks : List ℕ} (k : InSet chained s steps at n first top i marks) (h : i < n) (e : off ≡ word s (at + 2 + 2 * i)) where
    pub set_null : off ≡ 0 → InSet chained s steps at n first top (i + 1) marks
    set_null z = record { topping = topping_null k.topping h e z; counted = k.counted }

    pub set_rule : (off ≡ 0 → ⊥) → {r : ℕ} {next : List ℕ} → (r ≡ larger top (rule_steps steps (rule chained s (at + off)))) × Counted chained s steps r next
        → InSet chained s steps at n first r (i + 1) next
    set_rule z g = record { topping = topping_part k.topping h e z g.0; counted = g.1 }

  pub set_end : {top i : ℕ} {marks : List ℕ} → InSet chained s steps at n first top i marks → n ≤ i → n ≡ word s at
      → (top ≡ larger first (largest (rule_steps steps) (rule_set chained s at))) × Counted chained s steps top marks
  unfolding rule_set
  set_end k h e = (rw (← e) (topping_end k.topping h), k.counted)

-- What the loop over the sets keeps.
pub record InSets (chained : Bool) (s steps : List ℕ) (slot n top i : ℕ) (marks : List ℕ) : Type 0 where
  pub topping : Topping (largest (rule_steps steps)) (rule_set chained s) s 0 slot n 0 top i
  pub counted : Counted chained s steps top marks

module _ {chained : Bool} {s steps : List ℕ} {slot n : ℕ} where
  pub sets_all : {marks : List ℕ} → Counted chained s steps 0 marks → InSets chained s steps slot n 0 0 marks
  sets_all k = record { topping = topping_all; counted = k }

  module _ {top i off : ℕ} {marks : List ℕ} (k : InSets chained s steps slot n top i marks) (h : i < n) (e : off ≡ word s (slot + 2 * i)) where
    pub sets_null : off ≡ 0 → InSets chained s steps slot n top (i + 1) marks
    sets_null z = record { topping = topping_null k.topping h e z; counted = k.counted }

    pub sets_set : (off ≡ 0 → ⊥) → {r : ℕ} {next : List ℕ} → (r ≡ larger top (largest (rule_steps steps) (rule_set chained s off))) × Counted chained s steps r next
        → InSets chained s steps slot n r (i + 1) next
    sets_set z g =
        record { topping = topping_part k.topping h e z (g.0 ∙ ap (λ (p : ℕ). larger top (largest (rule_steps steps) (rule_set chained s p))) (sym (zero-add off))); counted = g.1 }

  pub sets_end : {top i : ℕ} {marks : List ℕ} → InSets chained s steps slot n top i marks → n ≤ i → top ≡ sets_steps steps (reaches (rule_set chained s) s 0 slot n)
  unfolding sets_steps
  sets_end k h = topping_end k.topping h ∙ zero_larger (largest (largest (rule_steps steps)) (drop_null (reaches (rule_set chained s) s 0 slot n)))
    where
      zero_larger : (a : ℕ) → larger 0 a ≡ a
      zero_larger a = omega (arith, larger_max 0 a)

-- the larger of a number and what a rule takes
pub larger_of : (most : ℕ) {found steps r : ℕ} → found ≡ steps → r ≡ max most found → r ≡ larger most steps
larger_of most {found} {steps} e f = omega (arith, larger_max most steps)
