-- The parts of plain and of chained rules, from what was read of them.
use Prim.Native.Nat.{ℕ, ◌+◌, ◌-◌, ◌*◌, ◌≤◌, ◌<◌}
use mathlib.Core.Path.{◌≡◌, refl, ◌∙◌}
use mathlib.Core.Bool.{Bool, true, false, ◌&&◌}
use mathlib.Core.List.{List}
use native.Mathlib.Omega.{arith}
use Rattle.std.specs.Prelude.{Option, None, Some}
use lib.ListN.{length}
use lib.Dec.{leb}
use borrow.Author.Tests.{le-leb, leb-true}
use Rattle.meaning.specs.Words.{word, words, inside}
use Rattle.meaning.specs.Tables.{plain_rule, chained_rule, rule}
use Rattle.meaning.specs.Fault.{rule_sound, rule_fault, part_fault}
use Rattle.rules.specs.Parts.{IsRule}
use Rattle.rules.specs.declared.RuleParts.{RuleParts}

-- what ends before something that lies inside lies inside too
pub inside_before : (s : List ℕ) (p q at n : ℕ) → p + q ≤ at + n → inside s p q && inside s at n ≡ inside s at n
unfolding inside
inside_before s p q at n h = step (leb (at + n) (length s)) refl
  where
    step : (b : Bool) → leb (at + n) (length s) ≡ b → leb (p + q) (length s) && b ≡ b
    step true e =
        let l : p + q ≤ length s = omega (arith, leb-true (at + n) (length s) e) in
        rw (le-leb (p + q) (length s) l)
    step false e = never (leb (p + q) (length s))
      where
        never : (b : Bool) → b && false ≡ false
        never true = refl
        never false = refl

-- what ends at the same place lies inside alike
inside_alike : (s : List ℕ) (p q at n : ℕ) → p + q ≡ at + n → inside s p q ≡ inside s at n
unfolding inside
inside_alike s p q at n e = rw e

module _ (s : List ℕ) (at : ℕ) where
  -- a plain rule lies inside if its records do
  plain_ends : (n k : ℕ) → inside s at 4 && inside s (at + 4) (2 * n + 4 * k) ≡ inside s (at + 4 + 2 * n) (4 * k)
  plain_ends n k = inside_before s at 4 (at + 4) (2 * n + 4 * k) (omega arith) ∙ inside_alike s (at + 4) (2 * n + 4 * k) (at + 4 + 2 * n) (4 * k) (omega arith)

  pub plain_is : {count n k : ℕ} → (count ≡ word s at) × (count < 65536) → n ≡ count - 1 → (k ≡ word s (at + 2)) × (k < 65536)
      → IsRule false s at
      (record { back = record { at = at; len = 0 }; count = count; input = record { at = at + 4; len = n }; ahead = record { at = at; len = 0 }; records = record { at = at + 4 + 2 * n; len = k } })
  unfolding rule plain_rule rule_sound words
  plain_is {count} {n} {k} c e r =
      record {
        back = refl;
        count = c.0;
        input = rw (e, c.0);
        ahead = refl;
        records = rw (e, c.0, r.0);
        ends = rw (e, c.0, r.0) (plain_ends (word s at - 1) (word s (at + 2)));
        near_back = record { close = omega arith; short = omega arith };
        near_input = record { close = omega arith; short = omega arith };
        near_ahead = record { close = omega arith; short = omega arith };
        near_records = record { close = omega arith; short = omega arith };
      }

  -- a chained rule lies inside if its records do
  chained_ends : (i a r k : ℕ) → at + 2 ≤ i + 2 → i + 2 ≤ a + 2 → a + 2 ≤ r + 2
      → inside s at 2 && (inside s i 2 && (inside s a 2 && (inside s r 2 && inside s (r + 2) (4 * k)))) ≡ inside s (r + 2) (4 * k)
  chained_ends i a r k f g h =
      rw
      (inside_before s r 2 (r + 2) (4 * k) (omega arith), inside_before s a 2 (r + 2) (4 * k) (omega arith), inside_before s i 2 (r + 2) (4 * k) (omega arith))
      (inside_before s at 2 (r + 2) (4 * k) (omega arith))

  pub chained_is : {b count n a k : ℕ} → (b ≡ word s at) × (b < 65536) → (count ≡ word s (at + 2 + 2 * b)) × (count < 65536) → n ≡ count - 1
      → (a ≡ word s (at + 2 + 2 * b + 2 + 2 * n)) × (a < 65536) → (k ≡ word s (at + 2 + 2 * b + 2 + 2 * n + 2 + 2 * a)) × (k < 65536)
      → IsRule true s at
      (record {
        back = record { at = at + 2; len = b };
        count = count;
        input = record { at = at + 2 + 2 * b + 2; len = n };
        ahead = record { at = at + 2 + 2 * b + 2 + 2 * n + 2; len = a };
        records = record { at = at + 2 + 2 * b + 2 + 2 * n + 2 + 2 * a + 2; len = k };
      })
  unfolding rule chained_rule rule_sound
  chained_is {b} {count} {n} {a} {k} f c e g r =
      let i = at + 2 + 2 * b in
      let j = i + 2 + 2 * n in
      record {
        back = rw f.0;
        count = rw f.0 at c.0;
        input = rw (e, c.0, f.0);
        ahead = rw (g.0, e, c.0, f.0);
        records = rw (r.0, g.0, e, c.0, f.0);
        ends = rw (← f.0, ← c.0, ← e, ← g.0, ← r.0) (chained_ends i j (j + 2 + 2 * a) k (omega arith) (omega arith) (omega arith));
        near_back = record { close = omega arith; short = omega arith };
        near_input = record { close = omega arith; short = omega arith };
        near_ahead = record { close = omega arith; short = omega arith };
        near_records = record { close = omega arith; short = omega arith };
      }

-- the answer of a check of a rule
module _ {chained : Bool} {s : List ℕ} {at : ℕ} {r : RuleParts} (k : IsRule chained s at r) {b : Bool} (e : b ≡ inside s r.records.at (4 * r.records.len)) where
  pub rule_sound_lem : b ≡ true → None ≡ rule_fault chained s at
  unfolding rule_fault part_fault
  rule_sound_lem h = rw (k.ends, ← e, h)

  pub rule_faulty : b ≡ false → Some at ≡ rule_fault chained s at
  unfolding rule_fault part_fault
  rule_faulty h = rw (k.ends, ← e, h)
