-- What a source's fault is by its kind and format, and a chained context's in format 3.
use Prim.Native.Nat.{ℕ, ◌+◌, ◌*◌}
use mathlib.Core.Path.{◌≡◌, refl, ◌∙◌}
use mathlib.Core.Bool.{Bool, true, false, ◌&&◌, and-false}
use Rattle.std.specs.Prelude.{Option, Some}
use mathlib.Core.List.{List}
use native.Mathlib.Omega.{arith}
use lib.ListN.{length}
use lib.Dec.{leb}
use borrow.Author.Tests.{ne_eqb, le-leb, lt-leb, leb-true, leb-false}
use Rattle.meaning.specs.Words.{word, inside}
use Rattle.meaning.specs.Fault.{part_fault, lowest, fault_through, coverage_fault, covers_fault, context_fault, pair_fault, single_fault, fault}
use Rattle.laws.specs.ReadsBack.{fault_is}
use Rattle.check_parts.specs.Parts.{by_glyph_fault, ligatures_fault, glyph_pairs_fault}

-- format 3, chained: where the last array ends inside the source, all the others do
module _ (s : List ℕ) {b i a k : ℕ} (e : b ≡ word s 2) (f : i ≡ word s (4 + 2 * b)) (g : a ≡ word s (4 + 2 * b + 2 + 2 * i)) (h : k ≡ word s (4 + 2 * b + 2 + 2 * i + 2 + 2 * a)) where
  -- where the counts of input, lookahead and records stand
  abbrev input : ℕ
  input = 4 + 2 * b

  abbrev ahead : ℕ
  ahead = input + 2 + 2 * i

  abbrev records : ℕ
  records = ahead + 2 + 2 * a

  all_inside : inside s 0 4 && (inside s input 2 && (inside s ahead 2 && (inside s records 2 && inside s (records + 2) (4 * k)))) ≡ inside s records (2 + 4 * k)
  unfolding inside
  all_inside = step (leb (records + (2 + 4 * k)) (length s)) refl
    where
      step : (t : Bool) → leb (records + (2 + 4 * k)) (length s) ≡ t
          → leb (0 + 4) (length s) && (leb (input + 2) (length s) && (leb (ahead + 2) (length s) && (leb (records + 2) (length s) && leb (records + 2 + 4 * k) (length s)))) ≡ t
      step true q =
          let m = leb-true (records + (2 + 4 * k)) (length s) q in
          rw (le-leb (0 + 4) (length s) (omega arith), le-leb (input + 2) (length s) (omega arith), le-leb (ahead + 2) (length s) (omega arith), le-leb (records + 2) (length s) (omega arith), le-leb (records + 2 + 4 * k) (length s) (omega arith))
      step false q =
          let m = leb-false (records + (2 + 4 * k)) (length s) q in
          rw (lt-leb (records + 2 + 4 * k) (length s) (omega arith)) (simp and-false)

  abbrev reached : Option ℕ
  reached = lowest (fault_through (coverage_fault s) s 0 4 b) (lowest (fault_through (coverage_fault s) s 0 (input + 2) i) (fault_through (coverage_fault s) s 0 (ahead + 2) a))

  chained_is : covers_fault true s ≡ part_fault 0 (inside s records (2 + 4 * k)) reached
  unfolding covers_fault
  chained_is = rw (← all_inside, h, g, f, e)

  pub chained_outside : inside s records (2 + 4 * k) ≡ false → covers_fault true s ≡ Some 0
  unfolding part_fault
  chained_outside q = chained_is ∙ rw q

  pub chained_inside : inside s records (2 + 4 * k) ≡ true → covers_fault true s ≡ reached
  unfolding part_fault
  chained_inside q = chained_is ∙ rw q

-- a pair table by its format
module _ (s : List ℕ) {format : ℕ} (e : format ≡ word s 0) where
  pub pairs_1 : format ≡ 1 → pair_fault s ≡ glyph_pairs_fault s
  unfolding pair_fault
  pairs_1 f = rw (← e, f)

-- a context by its format
module _ (chained : Bool) (s : List ℕ) {format : ℕ} (e : format ≡ word s 0) where
  pub context_1 : format ≡ 1 → context_fault chained s ≡ by_glyph_fault chained s
  unfolding context_fault
  context_1 f = rw (← e, f)

  pub context_3 : (format ≡ 1 → ⊥) → (format ≡ 2 → ⊥) → context_fault chained s ≡ covers_fault chained s
  unfolding context_fault
  context_3 f g = rw (← e, ne_eqb format 1 f, ne_eqb format 2 g)

-- a source by its kind
module _ (kind : ℕ) (s : List ℕ) where
  pub source_short : inside s 0 2 ≡ false → fault kind s ≡ Some 0
  unfolding part_fault
  source_short h = fault_is kind s ∙ rw h

  pub source_plain : inside s 0 2 ≡ true → kind ≡ 1 → fault kind s ≡ context_fault false s
  unfolding part_fault
  source_plain h e = fault_is kind s ∙ rw (h, e)

  pub source_chained : inside s 0 2 ≡ true → kind ≡ 2 → fault kind s ≡ context_fault true s
  unfolding part_fault
  source_chained h e = fault_is kind s ∙ rw (h, e)

  pub source_ligatures : inside s 0 2 ≡ true → kind ≡ 3 → fault kind s ≡ ligatures_fault s
  unfolding part_fault
  source_ligatures h e = fault_is kind s ∙ rw (h, e)

  pub source_pairs : inside s 0 2 ≡ true → kind ≡ 4 → fault kind s ≡ pair_fault s
  unfolding part_fault
  source_pairs h e = fault_is kind s ∙ rw (h, e)

  pub source_singles : inside s 0 2 ≡ true → (kind ≡ 1 → ⊥) → (kind ≡ 2 → ⊥) → (kind ≡ 3 → ⊥) → (kind ≡ 4 → ⊥) → fault kind s ≡ single_fault s
  unfolding part_fault
  source_singles h a b c d = fault_is kind s ∙ rw (h, ne_eqb kind 1 a, ne_eqb kind 2 b, ne_eqb kind 3 c, ne_eqb kind 4 d)
