-- What a test of two codes tells, and what numbers tell.
use Prim.Native.Nat.{ℕ, ◌+◌, ◌*◌, ◌≤◌, ◌<◌}
use mathlib.Core.Path.{◌≡◌, refl, sym, ap, ◌∙◌}
use mathlib.Core.Bool.{Bool, true, false, true≢false}
use mathlib.Core.List.{List}
use native.Mathlib.Decide.{dec_lt}
use native.Mathlib.Omega.{arith}
use lib.ListN.{length, get_or}
use lib.Dec.{eqb}
use borrow.Author.Tests.{eqb-true, eqb-false}
use Rattle.differences.specs.Content.{Says}
use Rattle.differences.specs.Entries.{same_says}
use Rattle.difference_laws.specs.Equal.{tells_says}
use Rattle.rule_numbers.specs.Book.{code_at, Is, Book}
use Rattle.rule_numbers.proofs.Keeping.{filled_few}

module _ (says : ℕ → Says) (c : ℕ) {x y : ℕ} {b : Bool} (e : x ≡ y) (f : b ≡ same_says (says x) (says c)) where
  pub same_tells : b ≡ true → says y ≡ says c
  same_tells h = rw e at (tells_says.equal (says x) (says c) (sym f ∙ h))

  pub other_tells : b ≡ false → says y ≡ says c → ⊥
  other_tells h q = true≢false (sym (tells_says.itself (says c)) ∙ ap (λ (z : Says). same_says z (says c)) (sym q ∙ ap says (sym e)) ∙ sym f ∙ h)

-- Numbers are equal exactly if the codes say the same.
pub numbers_tell : {says : ℕ → Says} {print : Says → ℕ} {num came : List ℕ} → Book says print num came → (c d : ℕ) → (get_or num c 0 ≡ 0 → ⊥) → (get_or num d 0 ≡ 0 → ⊥) → same_says (says c) (says d) ≡ eqb (get_or num c 0) (get_or num d 0)
numbers_tell {says} {print} {num} {came} b c d m n = go (same_says (says c) (says d)) (eqb (get_or num c 0) (get_or num d 0)) refl refl
  where
    p : Is came (get_or num c 0) × (says (code_at came (get_or num c 0)) ≡ says c)
    p = b.own c m

    q : Is came (get_or num d 0) × (says (code_at came (get_or num d 0)) ≡ says d)
    q = b.own d n

    go : (s t : Bool) → same_says (says c) (says d) ≡ s → eqb (get_or num c 0) (get_or num d 0) ≡ t → s ≡ t
    go true true e f = refl
    go false false e f = refl
    go true false e f = absurd (eqb-false (get_or num c 0) (get_or num d 0) f (b.firsts.apart (get_or num c 0) (get_or num d 0) p.0 q.0 (p.1 ∙ tells_says.equal (says c) (says d) e ∙ sym q.1)))
    go false true e f =
        let k = eqb-true (get_or num c 0) (get_or num d 0) f in
        let w : says c ≡ says d = sym p.1 ∙ ap (λ (n : ℕ). says (code_at came n)) k ∙ q.1 in
        sym e ∙ ap (λ (x : Says). same_says x (says d)) w ∙ tells_says.itself (says d)

-- no number is greater than there are cells
pub number_few : {says : ℕ → Says} {print : Says → ℕ} {num came : List ℕ} → Book says print num came → (c : ℕ) → get_or num c 0 ≤ length num
number_few {says} {print} {num} {came} b c = step (dec_lt 0 (get_or num c 0))
  where
    step : Dec (0 < get_or num c 0) → get_or num c 0 ≤ length num
    step (yes h) = omega (arith, (b.own c (λ z. omega arith)).0.few, b.enough, filled_few num)
    step (no h) = omega arith

-- where no cell is filled, no print has come and none is counted there are no numbers yet
pub book_blank : {says : ℕ → Says} {print : Says → ℕ} {num came : List ℕ} → 65540 + 2 * length num ≤ length came → length num < 0x1000_0000
    → ((i : ℕ) → get_or num i 0 ≡ 0) → ((i : ℕ) → i < 65537 → get_or came i 0 ≡ 0) → Book says print num came
book_blank {says} {print} {num} {came} l s n z = record {
  size = l;
  small = s;
  enough = omega (arith, z 65536 (omega arith));
  firsts = record {
    apart = λ j k p. absurd (none j p);
    prints = λ k p. absurd (none k p);
    latest = λ k p. absurd (none k p);
    chained = λ p b h. absurd (h (z p (omega arith)));
    before = λ j k p. absurd (none j p);
    linked = λ k p. absurd (none k p);
  };
  own = λ c h. absurd (h (n c));
}
  where
    none : (k : ℕ) → Is came k → ⊥
    none k p = omega (arith, p.some, p.few, z 65536 (omega arith))
