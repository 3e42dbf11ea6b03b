-- The ways through the search for a rule that fits.
use Prim.Native.Nat.{ℕ, zero, suc, ◌+◌, ◌-◌, ◌*◌, ◌≤◌, ◌<◌}
use mathlib.Core.Path.{◌≡◌, refl, sym, ap, ◌∙◌}
use mathlib.Core.Bool.{Bool, true, false, cond, ◌&&◌}
use Rattle.std.specs.Prelude.{Option, None, Some}
use mathlib.Core.List.{List, [], ◌∷◌}
use native.Mathlib.Omega.{arith}
use lib.ListN.{length, drop}
use lib.Dec.{ltb, eqb}
use borrow.Author.Tests.{eq-eqb, ne_eqb}
use Rattle.meaning.specs.Words.{word}
use Rattle.meaning.specs.Tables.{reach, reaches, drop_null, plain_rule, chained_rule, rule, rule_set}
use Rattle.meaning.specs.Matching.{fits, rule_fits, first_fit}
use Rattle.laws.specs.Left.{words_length}
use Rattle.replay_laws.specs.Places.{backward}
use Rattle.rules.specs.Parts.{IsRule}
use Rattle.rules.specs.declared.RuleParts.{RuleParts}
use Rattle.holding.specs.Held.{held, runs_on}
use Rattle.holding.specs.Fitting.{parts_fit, FineParts}
use Rattle.matching.specs.Fitting.{held_by, SoundTables, reach_fits, Told}
use Rattle.holding.specs.declared.How.{How}

-- a rule's input has one number fewer than it counts
input_length : (chained : Bool) (s : List ℕ) (at : ℕ) → length (rule chained s at).input ≡ (rule chained s at).count - 1
unfolding rule plain_rule chained_rule
input_length true s at = words_length s (at + 2 + 2 * word s at + 2) (word s (at + 2 + 2 * word s at) - 1)
input_length false s at = words_length s (at + 4) (word s at - 1)

count_small : {chained : Bool} {s : List ℕ} {at : ℕ} {r : RuleParts} → IsRule chained s at r → r.count ≤ 65536
count_small {chained} {s} {at} {r} k =
    let e = sym (words_length s r.input.at r.input.len) ∙ ap length k.input ∙ input_length chained s at in
    omega (arith, e, k.count, k.near_input.short)

-- what a rule's sequences ask, if its numbers are glyphs or classes
module _ {chained : Bool} {s : List ℕ} {at : ℕ} {r : RuleParts} {h : How} (k : IsRule chained s at r) (t : SoundTables s h) (l : at < 0x8000_0000_0000) where
  pub rule_fine : FineParts s h r
  rule_fine = record {
    count = count_small k;
    back = record { near = omega (arith, k.near_back.close, k.near_back.short); sound = λ i m. record { by_class = t.back; by_cover = λ x y. absurd (omega (arith, t.sort)) } };
    input = record { near = omega (arith, k.near_input.close, k.near_input.short); sound = λ i m. record { by_class = t.input; by_cover = λ x y. absurd (omega (arith, t.sort)) } };
    ahead = record { near = omega (arith, k.near_ahead.close, k.near_ahead.short); sound = λ i m. record { by_class = t.ahead; by_cover = λ x y. absurd (omega (arith, t.sort)) } };
  }

pub drop_more : (text : List ℕ) (a b : ℕ) → drop a (drop b text) ≡ drop (b + a) text
drop_more text a zero =
    let e : 0 + a ≡ a = omega arith in
    rw e
drop_more [] zero (suc b) =
    let e : suc b + 0 ≡ suc b = omega arith in
    rw e
drop_more [] (suc a) (suc b) =
    let e : suc b + suc a ≡ suc (b + suc a) = omega arith in
    rw e
drop_more (g ∷ text) a (suc b) =
    let e : suc b + a ≡ suc (b + a) = omega arith in
    rw e (drop_more text a b)

-- a rule fits if its parts do, with the input from the next place on
module _ {chained : Bool} {s : List ℕ} {at : ℕ} {r : RuleParts} (h : How) (text : List ℕ) (place : ℕ) (k : IsRule chained s at r) where
  parts_rule : parts_fit s h r text place (place + 1) ≡ rule_fits (held_by s h) (rule chained s at) (backward text place) (drop (suc place) text)
  unfolding parts_fit runs_on rule_fits held_by
  parts_rule = rw (k.input, k.ahead, k.back, ← k.count) (step r.count)
    where
      e : place + 1 ≡ suc place
      e = omega arith

      step : (n : ℕ) → ltb 0 n && (fits (held s h.sort h.input) (rule chained s at).input (drop (place + 1) text)
          && (fits (held s h.sort h.ahead) (rule chained s at).ahead (drop (place + n) text) && fits (held s h.sort h.back) (rule chained s at).back (backward text place)))
          ≡ ltb 0 n && (fits (held s h.sort h.input) (rule chained s at).input (drop (suc place) text)
          && (fits (held s h.sort h.ahead) (rule chained s at).ahead (drop (n - 1) (drop (suc place) text)) && fits (held s h.sort h.back) (rule chained s at).back (backward text place)))
      step zero = refl
      step (suc n) =
          let d : suc place + (suc n - 1) ≡ place + suc n = omega arith in
          rw (e, drop_more text (suc n - 1) (suc place), d)

-- The rule of an offset.
module _ (chained : Bool) (s : List ℕ) (h : How) (base off : ℕ) (text : List ℕ) (place : ℕ) where
  pub reach_null : off ≡ 0 → false ≡ reach_fits chained s h base off text place
  unfolding reach_fits
  reach_null e = rw (eq-eqb off 0 e)

  pub reach_rule : (off ≡ 0 → ⊥) → {r : RuleParts} → IsRule chained s (base + off) r → {b : Bool} → b ≡ parts_fit s h r text place (place + 1) → b ≡ reach_fits chained s h base off text place
  unfolding reach_fits
  reach_rule e k f = rw (ne_eqb off 0 e) (f ∙ parts_rule h text place k)

-- What the loop of `first_rule` keeps: the answer for the rules that are left is the whole answer.
abbrev fit_left : Bool → List ℕ → How → ℕ → List ℕ → ℕ → ℕ → ℕ → Option (ℕ × List (ℕ × ℕ))
fit_left chained s h set text place slot n = first_fit (held_by s h) (drop_null (reaches (rule chained s) s set slot n)) (backward text place) (drop (suc place) text)

pub record Choosing (chained : Bool) (s : List ℕ) (h : How) (set : ℕ) (text : List ℕ) (place n i : ℕ) : Type 0 where
  pub within : i ≤ n
  pub small : n < 65536
  pub left : fit_left chained s h set text place (set + 2 + 2 * i) (n - i) ≡ first_fit (held_by s h) (rule_set chained s set) (backward text place) (drop (suc place) text)

module _ {chained : Bool} {s : List ℕ} {h : How} {set : ℕ} {text : List ℕ} {place n : ℕ} where
  pub choosing_all : (n ≡ word s set) × (n < 65536) → Choosing chained s h set text place n 0
  unfolding rule_set
  choosing_all e =
      let a : set + 2 + 2 * 0 ≡ set + 2 = omega arith in
      let b : n - 0 ≡ word s set = omega arith in
      record { within = omega arith; small = e.1; left = rw (a, b) }

  module _ {i off : ℕ} (k : Choosing chained s h set text place n i) (l : i < n) (e : off ≡ word s (set + 2 + 2 * i)) {b : Bool} (f : b ≡ reach_fits chained s h set off text place) where
    one : fit_left chained s h set text place (set + 2 + 2 * i) (n - i)
        ≡ cond b (Some ((rule chained s (set + off)).count, (rule chained s (set + off)).records)) (fit_left chained s h set text place (set + 2 + 2 * (i + 1)) (n - (i + 1)))
    unfolding reaches reach drop_null first_fit reach_fits
    one =
        let a : n - i ≡ suc (n - (i + 1)) = omega arith in
        let c : set + 2 + 2 * (i + 1) ≡ set + 2 + 2 * i + 2 = omega arith in
        rw (a, c, ← e, f) (step (eqb off 0))
      where
        step : (z : Bool) → first_fit (held_by s h) (drop_null (cond z None (Some (rule chained s (set + off))) ∷ reaches (rule chained s) s set (set + 2 + 2 * i + 2) (n - (i + 1)))) (backward text place) (drop (suc place) text)
            ≡ cond (cond z false (rule_fits (held_by s h) (rule chained s (set + off)) (backward text place) (drop (suc place) text)))
            (Some ((rule chained s (set + off)).count, (rule chained s (set + off)).records)) (fit_left chained s h set text place (set + 2 + 2 * i + 2) (n - (i + 1)))
        step true = refl
        step false = refl

    pub choosing_turn : b ≡ false → Choosing chained s h set text place n (i + 1)
    choosing_turn z = record { within = omega arith; small = k.small; left = sym (rw z at one) ∙ k.left }

    pub choosing_found : b ≡ true → {r : RuleParts} → IsRule chained s (set + off) r → set < 65536 → off < 65536
        → Told s (first_fit (held_by s h) (rule_set chained s set) (backward text place) (drop (suc place) text)) (Some (record { input_len = r.count; records = r.records }))
    choosing_found z {r} t u v = record {
      says = rw (t.count, t.records) (sym (rw z at one) ∙ k.left);
      small = (count_small t, omega (arith, t.near_records.close), t.near_records.short);
    }

  pub choosing_end : {i : ℕ} → Choosing chained s h set text place n i → n ≤ i
      → Told s (first_fit (held_by s h) (rule_set chained s set) (backward text place) (drop (suc place) text)) None
  unfolding reaches drop_null first_fit
  choosing_end {i} k l =
      let a : n - i ≡ 0 = omega arith in
      record { says = rw a at k.left; small = tt }
