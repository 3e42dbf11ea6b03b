-- What the parts of a rule say, and how it is compared and printed row by row.
use Prim.Native.Nat.{ℕ, zero, suc, ◌+◌, ◌-◌, ◌*◌, ◌/◌, ◌%◌, ◌<◌}
use mathlib.Core.Path.{◌≡◌, refl, sym, ap, ap₂, ◌∙◌}
use mathlib.Core.Bool.{Bool, true, false, cond, ◌&&◌, not}
use mathlib.Core.List.{List, [], ◌∷◌, map}
use native.Mathlib.Omega.{arith}
use lib.Dec.{eqb}
use borrow.Author.Tests.{eq-eqb, ne_eqb, not-true, not-false}
use Rattle.meaning.specs.Words.{word, words, entries}
use Rattle.meaning.specs.Tables.{ligature, rule}
use Rattle.differences.specs.Content.{rule_says, one_glyph}
use Rattle.differences.specs.Entries.{same_list, same_two, same_says}
use Rattle.rules.specs.declared.Row.{Row}
use Rattle.rules.specs.declared.RuleParts.{RuleParts}
use Rattle.rules.specs.Parts.{IsRule}
use Rattle.rule_rows.specs.declared.Run.{Run}
use Rattle.rule_rows.specs.Rows.{side_of, number_by, Reads, numbers_of, mix, print_numbers}
use Rattle.rule_says.specs.declared.Shape.{Shape}
use Rattle.rule_says.specs.Said.{numbered, ligature_by, says_at, forms_at, base_of, run_of, says_by, part_says, IsPart, lowest, print_runs, print_pairs, print_says}

-- Parts.

pub rule_part : {kind : ℕ} {s : List ℕ} {at : ℕ} {r : RuleParts} → (kind ≡ 3 → ⊥) → {b : Bool} → b ≡ eqb kind 2 → IsRule b s at r → IsPart kind s at r
unfolding says_at forms_at part_says rule_says
rule_part {kind} {s} {at} {r} n e k = record {
  says = λ t b i a. rw (ne_eqb kind 3 n, ← e, k.back, k.input, k.ahead, k.records, k.count);
  back = k.near_back;
  input = k.near_input;
  ahead = k.near_ahead;
  records = k.near_records;
}

-- Prints.

print_numbered : (t : List ℕ) (b h : ℕ) (ws : List ℕ) → print_runs h (map (numbered t b) ws) ≡ print_numbers h (map (number_by t b) ws)
unfolding print_runs print_numbers numbered lowest one_glyph
print_numbered t b h [] = refl
print_numbered t b h (w ∷ ws) = print_numbered t b (mix h (number_by t b w)) ws

print_entries : (s t : List ℕ) (h at n : ℕ) → print_pairs h (entries s at n) ≡ print_numbers h (map (number_by t 0) (words s at (2 * n)))
unfolding print_pairs print_numbers entries words number_by
print_entries s t h at zero = refl
print_entries s t h at (suc n) =
    let e : 2 * suc n ≡ suc (suc (2 * n)) = omega arith in
    let f : at + 4 ≡ at + 2 + 2 = omega arith in
    rw (e, f) (print_entries s t (mix (mix h (word s at)) (word s (at + 2))) (at + 2 + 2) n)

module _ (shape : Shape) (l r t : List ℕ) (code : ℕ) where
  -- the source that has the code
  abbrev pub of : List ℕ
  of = side_of (code % 2) l r

  pub print_parts : {p : RuleParts} {f b i a k : ℕ} {xb xi xa xr : Run} → IsPart shape.kind of (code / 2) p → f ≡ forms_at shape.kind of (code / 2)
      → xb ≡ run_of shape.classes code 1 p.back.at → b ≡ print_numbers f (numbers_of l r t xb p.back.len)
      → xi ≡ run_of shape.classes code 3 p.input.at → i ≡ print_numbers b (numbers_of l r t xi p.input.len)
      → xa ≡ run_of shape.classes code 5 p.ahead.at → a ≡ print_numbers i (numbers_of l r t xa p.ahead.len)
      → xr ≡ run_of 0 code 0 p.records.at → k ≡ print_numbers a (numbers_of l r t xr (2 * p.records.len))
      → k ≡ print_says (says_by shape l r t code)
  unfolding says_by print_says part_says numbers_of base_of
  print_parts {p} q ef xb eb xi ei xa ea xr ek =
      ek
      ∙ rw (ea, ei, eb, ef, xb, xi, xa, xr) (sym (
      ap (λ (n : ℕ). print_pairs n (entries of p.records.at p.records.len))
      (ap (λ (n : ℕ). print_runs (print_runs n (map (numbered t (base_of shape.classes (3 + code % 2))) (words of p.input.at p.input.len))) (map (numbered t (base_of shape.classes (5 + code % 2))) (words of p.ahead.at p.ahead.len)))
      (print_numbered t (base_of shape.classes (1 + code % 2)) (forms_at shape.kind of (code / 2)) (words of p.back.at p.back.len))
      ∙ ap (λ (n : ℕ). print_runs n (map (numbered t (base_of shape.classes (5 + code % 2))) (words of p.ahead.at p.ahead.len))) (print_numbered t (base_of shape.classes (3 + code % 2)) _ (words of p.input.at p.input.len))
      ∙ print_numbered t (base_of shape.classes (5 + code % 2)) _ (words of p.ahead.at p.ahead.len))
      ∙ print_entries of t _ p.records.at p.records.len
      ))
      ∙ ap print_says (q.says t (base_of shape.classes (1 + code % 2)) (base_of shape.classes (3 + code % 2)) (base_of shape.classes (5 + code % 2)))

-- the two ways through `forms_of`
pub forms_none : (kind : ℕ) (s : List ℕ) (at : ℕ) → (kind ≡ 3 → ⊥) → 0 ≡ forms_at kind s at
unfolding forms_at
forms_none kind s at h = rw (ne_eqb kind 3 h)

pub forms_there : (kind : ℕ) (s : List ℕ) (at : ℕ) → kind ≡ 3 → word s at ≡ forms_at kind s at
unfolding forms_at
forms_there kind s at h = rw (eq-eqb kind 3 h)

-- the parts of a ligature
pub ligature_part : (s : List ℕ) (at : ℕ) {n k : ℕ} {r : RuleParts} → at < 0x1_0000_0000 → n ≡ word s (at + 2) → n < 65536 → k ≡ n - 1
    → r ≡ record { back = record { at = at; len = 0 }; count = n; input = record { at = at + 4; len = k }; ahead = record { at = at; len = 0 }; records = record { at = at; len = 0 } }
    → IsPart 3 s at r
unfolding says_at forms_at part_says ligature_by ligature words entries
ligature_part s at {n} {k} h e w f g = record {
  says = λ t b i a. rw (g, f, e);
  back = rw g (record { close = omega arith; short = omega arith });
  input = rw g (record { close = omega arith; short = omega arith });
  ahead = rw g (record { close = omega arith; short = omega arith });
  records = rw g (record { close = omega arith; short = omega arith });
}

-- Comparing.

same_numbered : (t : List ℕ) (p q : ℕ) (ws vs : List ℕ) → same_list eqb (map (number_by t p) ws) (map (number_by t q) vs) ≡ same_list (same_list same_two) (map (numbered t p) ws) (map (numbered t q) vs)
unfolding same_list same_two numbered one_glyph
same_numbered t p q [] [] = refl
same_numbered t p q [] (v ∷ vs) = refl
same_numbered t p q (w ∷ ws) [] = refl
same_numbered t p q (w ∷ ws) (v ∷ vs) = rw (same_numbered t p q ws vs) (step (eqb (number_by t p w) (number_by t q v)))
  where
    step : (b : Bool) → b && same_list (same_list same_two) (map (numbered t p) ws) (map (numbered t q) vs) ≡ ((b && b) && true) && same_list (same_list same_two) (map (numbered t p) ws) (map (numbered t q) vs)
    step true = refl
    step false = refl

same_entries : (s u t : List ℕ) (p q n m : ℕ) → same_list eqb (map (number_by t 0) (words s p (2 * n))) (map (number_by t 0) (words u q (2 * m))) ≡ same_list same_two (entries s p n) (entries u q m)
unfolding same_list same_two entries words number_by
same_entries s u t p q zero zero = refl
same_entries s u t p q zero (suc m) =
    let e : 2 * suc m ≡ suc (suc (2 * m)) = omega arith in
    rw e
same_entries s u t p q (suc n) zero =
    let e : 2 * suc n ≡ suc (suc (2 * n)) = omega arith in
    rw e
same_entries s u t p q (suc n) (suc m) =
    let e : 2 * suc n ≡ suc (suc (2 * n)) = omega arith in
    let f : 2 * suc m ≡ suc (suc (2 * m)) = omega arith in
    let g : p + 4 ≡ p + 2 + 2 = omega arith in
    let h : q + 4 ≡ q + 2 + 2 = omega arith in
    rw (e, f, g, h, ← same_entries s u t (p + 2 + 2) (q + 2 + 2) n m) (step (eqb (word s p) (word u q)) _ _)
  where
    step : (b c d : Bool) → b && (c && d) ≡ (b && c) && d
    step true c d = refl
    step false c d = refl

-- rows of two lengths are not the same
pub lengths_differ : (l r t : List ℕ) (x y : Run) (m n : ℕ) → (m ≡ n → ⊥) → false ≡ same_list eqb (numbers_of l r t x m) (numbers_of l r t y n)
unfolding numbers_of same_list words
lengths_differ l r t x y m n h = go (side_of x.side l r) (side_of y.side l r) x.at y.at m n h
  where
    go : (s u : List ℕ) (p q m n : ℕ) → (m ≡ n → ⊥) → false ≡ same_list eqb (map (number_by t x.base) (words s p m)) (map (number_by t y.base) (words u q n))
    go s u p q zero zero h = absurd (h refl)
    go s u p q zero (suc n) h = refl
    go s u p q (suc m) zero h = refl
    go s u p q (suc m) (suc n) h = step (eqb (number_by t x.base (word s p)) (number_by t y.base (word u q))) (go s u (p + 2) (q + 2) m n (λ e. h (ap suc e)))
      where
        step : (b : Bool) {c : Bool} → false ≡ c → false ≡ b && c
        step true e = e
        step false e = refl

-- the row of a part is near
base_small : (c k : ℕ) → k < 8 → base_of c k < 0x1_0000_0000
unfolding base_of
base_small c k h = step (eqb c 0)
  where
    step : (b : Bool) → cond b 0 (65536 * k) < 0x1_0000_0000
    step true = omega arith
    step false = omega arith

pub base_none : (c k : ℕ) → c ≡ 0 → (0 ≡ base_of c k) × (0 < 0x1_0000_0000)
unfolding base_of
base_none c k h = (rw (eq-eqb c 0 h), omega arith)

pub base_there : (c k : ℕ) → (c ≡ 0 → ⊥) → k < 8 → (65536 * k ≡ base_of c k) × (65536 * k < 0x1_0000_0000)
unfolding base_of
base_there c k h b = (rw (ne_eqb c 0 h), omega arith)

pub reads_run : {x : Run} (c code k at : ℕ) → x ≡ run_of c code k at → k < 6 → at < 0x1_0000_0000 → Reads x
reads_run c code k at e h b = rw e (record { near = b; based = base_small c (k + code % 2) (omega arith) })

-- six tests in a row of which one fails
off_count : (b x : Bool) → false ≡ b && (false && x)
off_count true x = refl
off_count false x = refl

off_input : (b c x : Bool) → false ≡ b && (c && (false && x))
off_input true c x = off_count c x
off_input false c x = refl

off_ahead : (b c i x : Bool) → false ≡ b && (c && (i && (false && x)))
off_ahead true c i x = off_input c i x
off_ahead false c i x = refl

off_forms : (b c i a r : Bool) → false ≡ b && (c && (i && (a && (r && false))))
off_forms true c i a r = go c i a r
  where
    three : (a r : Bool) → false ≡ a && (r && false)
    three true true = refl
    three true false = refl
    three false r = refl

    two : (i a r : Bool) → false ≡ i && (a && (r && false))
    two true a r = three a r
    two false a r = refl

    go : (c i a r : Bool) → false ≡ c && (i && (a && (r && false)))
    go true i a r = two i a r
    go false i a r = refl
off_forms false c i a r = refl

all_on : (r f : Bool) → f ≡ true → r ≡ true && (true && (true && (true && (r && f))))
all_on true f e = sym e
all_on false f e = refl

module _ (shape : Shape) (l r t : List ℕ) (a b : ℕ) where
  abbrev pub both_say : Bool
  both_say = same_says (says_by shape l r t a) (says_by shape l r t b)

  -- two parts that are rows by the class table k
  abbrev pub same_at : ℕ → Row → Row → Bool
  same_at k x y = same_list eqb (numbers_of l r t (run_of shape.classes a k x.at) x.len) (numbers_of l r t (run_of shape.classes b k y.at) y.len)

  abbrev pub same_records : Row → Row → Bool
  same_records x y = same_list eqb (numbers_of l r t (run_of 0 a 0 x.at) (2 * x.len)) (numbers_of l r t (run_of 0 b 0 y.at) (2 * y.len))

  -- what a test of two parts tells
  at_false : (k : ℕ) (i j : Row) {x y : Run} {u : Bool} → x ≡ run_of shape.classes a k i.at → y ≡ run_of shape.classes b k j.at
      → u ≡ same_list eqb (numbers_of l r t x i.len) (numbers_of l r t y j.len) → not u ≡ true → same_at k i j ≡ false
  at_false k i j {u = u} ex ey eu h = sym (rw (ex, ey) at eu) ∙ not-true u h

  at_true : (k : ℕ) (i j : Row) {x y : Run} {u : Bool} → x ≡ run_of shape.classes a k i.at → y ≡ run_of shape.classes b k j.at
      → u ≡ same_list eqb (numbers_of l r t x i.len) (numbers_of l r t y j.len) → not u ≡ false → same_at k i j ≡ true
  at_true k i j {u = u} ex ey eu h = sym (rw (ex, ey) at eu) ∙ not-false u h

  module _ {p q : RuleParts} (P : IsPart shape.kind (of shape l r t a) (a / 2) p) (Q : IsPart shape.kind (of shape l r t b) (b / 2) q) where
    said : same_at 1 p.back q.back && (eqb p.count q.count && (same_at 3 p.input q.input && (same_at 5 p.ahead q.ahead
        && (same_records p.records q.records && eqb (forms_at shape.kind (of shape l r t a) (a / 2)) (forms_at shape.kind (of shape l r t b) (b / 2)))))) ≡ both_say
    unfolding says_by numbers_of base_of same_says part_says
    said =
        let c = shape.classes in
        rw (
          same_numbered t (base_of c (1 + a % 2)) (base_of c (1 + b % 2)) (words (of shape l r t a) p.back.at p.back.len) (words (of shape l r t b) q.back.at q.back.len),
          same_numbered t (base_of c (3 + a % 2)) (base_of c (3 + b % 2)) (words (of shape l r t a) p.input.at p.input.len) (words (of shape l r t b) q.input.at q.input.len),
          same_numbered t (base_of c (5 + a % 2)) (base_of c (5 + b % 2)) (words (of shape l r t a) p.ahead.at p.ahead.len) (words (of shape l r t b) q.ahead.at q.ahead.len),
          same_entries (of shape l r t a) (of shape l r t b) t p.records.at q.records.at p.records.len q.records.len,
        )
        (ap₂ same_says (P.says t (base_of c (1 + a % 2)) (base_of c (3 + a % 2)) (base_of c (5 + a % 2))) (Q.says t (base_of c (1 + b % 2)) (base_of c (3 + b % 2)) (base_of c (5 + b % 2))))

    pub count_differs : (p.count ≡ q.count → ⊥) → false ≡ both_say
    count_differs h = off_count (same_at 1 p.back q.back) ((same_at 3 p.input q.input) && ((same_at 5 p.ahead q.ahead) && ((same_records p.records q.records) && eqb (forms_at shape.kind (of shape l r t a) (a / 2)) (forms_at shape.kind (of shape l r t b) (b / 2))))) ∙ (rw (ne_eqb p.count q.count h) at said)

    module _ {f g : ℕ} (ef : f ≡ forms_at shape.kind (of shape l r t a) (a / 2)) (eg : g ≡ forms_at shape.kind (of shape l r t b) (b / 2)) where
      pub forms_differ : (f ≡ g → ⊥) → false ≡ both_say
      forms_differ h = off_forms (same_at 1 p.back q.back) (eqb p.count q.count) (same_at 3 p.input q.input) (same_at 5 p.ahead q.ahead) (same_records p.records q.records) ∙ (rw (← ef, ← eg, ne_eqb f g h) at said)

    module _ {x y : Run} {u : Bool} where
      pub input_differs : x ≡ run_of shape.classes a 3 p.input.at → y ≡ run_of shape.classes b 3 q.input.at
          → u ≡ same_list eqb (numbers_of l r t x p.input.len) (numbers_of l r t y q.input.len) → not u ≡ true → false ≡ both_say
      input_differs ex ey eu h = off_input (same_at 1 p.back q.back) (eqb p.count q.count) ((same_at 5 p.ahead q.ahead) && ((same_records p.records q.records) && eqb (forms_at shape.kind (of shape l r t a) (a / 2)) (forms_at shape.kind (of shape l r t b) (b / 2)))) ∙ (rw (at_false 3 p.input q.input ex ey eu h) at said)

      pub back_differs : x ≡ run_of shape.classes a 1 p.back.at → y ≡ run_of shape.classes b 1 q.back.at
          → u ≡ same_list eqb (numbers_of l r t x p.back.len) (numbers_of l r t y q.back.len) → not u ≡ true → false ≡ both_say
      back_differs ex ey eu h = rw (at_false 1 p.back q.back ex ey eu h) at said

      pub ahead_differs : x ≡ run_of shape.classes a 5 p.ahead.at → y ≡ run_of shape.classes b 5 q.ahead.at
          → u ≡ same_list eqb (numbers_of l r t x p.ahead.len) (numbers_of l r t y q.ahead.len) → not u ≡ true → false ≡ both_say
      ahead_differs ex ey eu h = off_ahead (same_at 1 p.back q.back) (eqb p.count q.count) (same_at 3 p.input q.input) ((same_records p.records q.records) && eqb (forms_at shape.kind (of shape l r t a) (a / 2)) (forms_at shape.kind (of shape l r t b) (b / 2))) ∙ (rw (at_false 5 p.ahead q.ahead ex ey eu h) at said)

    -- all but the records are the same
    pub records_tell : {f g : ℕ} {xi yi xb yb xa ya xr yr : Run} {i b' a' u : Bool} → p.count ≡ q.count → f ≡ forms_at shape.kind (of shape l r t a) (a / 2) → g ≡ forms_at shape.kind (of shape l r t b) (b / 2) → f ≡ g
        → xi ≡ run_of shape.classes a 3 p.input.at → yi ≡ run_of shape.classes b 3 q.input.at → i ≡ same_list eqb (numbers_of l r t xi p.input.len) (numbers_of l r t yi q.input.len) → not i ≡ false
        → xb ≡ run_of shape.classes a 1 p.back.at → yb ≡ run_of shape.classes b 1 q.back.at → b' ≡ same_list eqb (numbers_of l r t xb p.back.len) (numbers_of l r t yb q.back.len) → not b' ≡ false
        → xa ≡ run_of shape.classes a 5 p.ahead.at → ya ≡ run_of shape.classes b 5 q.ahead.at → a' ≡ same_list eqb (numbers_of l r t xa p.ahead.len) (numbers_of l r t ya q.ahead.len) → not a' ≡ false
        → xr ≡ run_of 0 a 0 p.records.at → yr ≡ run_of 0 b 0 q.records.at → u ≡ same_list eqb (numbers_of l r t xr (2 * p.records.len)) (numbers_of l r t yr (2 * q.records.len))
        → u ≡ both_say
    records_tell {f} {g} {u = u} c ef eg e xi yi ei hi xb yb eb hb xa ya ea ha xr yr eu =
        let w : u ≡ same_records p.records q.records = rw (xr, yr) at eu in
        w ∙ all_on (same_records p.records q.records) (eqb f g) (eq-eqb f g e)
        ∙ (rw (← ef, ← eg, eq-eqb p.count q.count c, at_true 3 p.input q.input xi yi ei hi, at_true 1 p.back q.back xb yb eb hb, at_true 5 p.ahead q.ahead xa ya ea ha) at said)
