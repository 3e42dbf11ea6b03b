-- The ways through the choice of a lister, by kind and format.
use Prim.Native.Nat.{ℕ, ◌+◌, ◌≤◌, ◌<◌}
use mathlib.Core.Path.{◌≡◌, refl, sym, ap, ◌∙◌}
use mathlib.Core.Bool.{Bool, true, false, cond, ◌&&◌, not, true≢false}
use Rattle.std.specs.Prelude.{None}
use mathlib.Core.List.{List}
use native.Mathlib.Decide.{dec_lt}
use native.Mathlib.Omega.{arith}
use lib.Dec.{leb, eqb}
use borrow.Author.Tests.{le-leb, lt-leb, leb-true, eq-eqb, ne_eqb, eqb-true, eqb-false, not-true}
use Rattle.meaning.specs.Words.{word}
use Rattle.meaning.specs.Tables.{table}
use Rattle.meaning.specs.Fault.{fault}
use Rattle.laws.specs.Runs.{both}
use Rattle.differences.specs.Content.{content}
use Rattle.differences.specs.Entries.{differences}
use Rattle.differences.specs.Compare.{compared_kind, compared_format}
use Rattle.listing.specs.Listed.{Listed}
use Rattle.listing.specs.Laid.{LaidList}
use Rattle.glyph_differences.specs.Slots.{ByGlyph}
use Rattle.class_differences.specs.Reached.{ByClass}
use Rattle.compare_refusals.specs.Passes.{Passes, by_rules}
use Rattle.compare_lists.proofs.Formats.{context_kind}

-- a subtable by its kind
module _ {kind k : ℕ} (e : kind ≡ k) (l r : List ℕ) where
  pub sound_as : {s : List ℕ} → Passes kind s → fault k s ≡ None
  sound_as p = rw (← e) p.sound

  pub listed_as : (most : ℕ) → most ≤ 0x100_0000_0000 → {out out' : List ℕ} {q : ℕ} → Listed (differences (content (table k l)) (content (table k r))) out 0 out' q × (q ≤ 0 + most)
      → Listed (differences (content (table kind l)) (content (table kind r))) out 0 out' q × (q ≤ 0x100_0000_0000)
  listed_as most h p = (rw e p.0, omega arith)

  pub laid_as_lem : (most : ℕ) → most ≤ 0x100_0000_0000 → {out out' : List ℕ} {q : ℕ} → LaidList (differences (content (table k l)) (content (table k r))) out out' q × (q ≤ most)
      → LaidList (differences (content (table kind l)) (content (table kind r))) out out' q × (q ≤ 0x100_0000_0000)
  laid_as_lem most h p = (rw e p.0, omega arith)

-- kinds and formats
module _ (kind : ℕ) (h : compared_kind kind ≡ true) where
  pub kind_range : (1 ≤ kind) × (kind ≤ 4)
  unfolding compared_kind
  kind_range = let p = both (leb 1 kind) (leb kind 4) h in (leb-true 1 kind p.0, leb-true kind 4 p.1)

-- ligatures and pairs have one format
pub one_format : (kind f : ℕ) → 2 < kind → compared_format kind f ≡ true → f ≡ 1
unfolding compared_format
one_format kind f h k = eqb-true f 1 (rw (lt-leb kind 2 h) at k)

-- two formats that differ, and format 3, are those of contexts
pub differ_contexts : (kind f h : ℕ) → compared_format kind f ≡ true → compared_format kind h ≡ true → (f ≡ h → ⊥) → kind ≤ 2
differ_contexts kind f h a b n = go (dec_lt 2 kind)
  where
    go : Dec (2 < kind) → kind ≤ 2
    go (yes l) = absurd (n (one_format kind f l a ∙ sym (one_format kind h l b)))
    go (no l) = omega arith

pub three_contexts : (kind f : ℕ) → compared_format kind f ≡ true → f ≡ 3 → kind ≤ 2
three_contexts kind f a e = go (dec_lt 2 kind)
  where
    go : Dec (2 < kind) → kind ≤ 2
    go (yes l) = absurd (omega (arith, one_format kind f l a))
    go (no l) = omega arith

-- Whether rules are to be paired.
module _ (kind f h : ℕ) where
  pub none_pairs : kind ≡ 4 → false ≡ by_rules kind f h
  unfolding by_rules
  none_pairs e = rw (eq-eqb kind 4 e)

  pub none_formats : (kind ≡ 4 → ⊥) → (f ≡ h → ⊥) → false ≡ by_rules kind f h
  unfolding by_rules
  none_formats m n = rw (ne_eqb kind 4 m, ne_eqb f h n)

  pub some_format : (kind ≡ 4 → ⊥) → f ≡ h → not (eqb f 3) ≡ by_rules kind f h
  unfolding by_rules
  some_format m e = rw (ne_eqb kind 4 m, eq-eqb f h e)

  -- where they are not, of two contexts of one format, that is format 3
  pub three_left : by_rules kind f h ≡ false → (kind ≡ 4 → ⊥) → f ≡ h → f ≡ 3
  three_left b m e = go (eqb f 3) refl
    where
      go : (t : Bool) → eqb f 3 ≡ t → f ≡ 3
      go true q = eqb-true f 3 q
      go false q = absurd (true≢false (ap not (sym q) ∙ some_format m e ∙ b))

  -- where they are, the kind is not pair, and the formats are one, which is not 3
  pub rules_given : compared_kind kind ≡ true → by_rules kind f h ≡ true → (1 ≤ kind) × (kind ≤ 3) × (f ≡ h) × (f ≡ 3 → ⊥)
  unfolding by_rules
  rules_given k b =
      let p = both (not (eqb kind 4)) (eqb f h && not (eqb f 3)) b in
      let q = both (eqb f h) (not (eqb f 3)) p.1 in
      let n = eqb-false kind 4 (not-true (eqb kind 4) p.0) in
      ((kind_range kind k).0, omega (arith, (kind_range kind k).1, n), eqb-true f h q.0, eqb-false f 3 (not-true (eqb f 3) q.1))

-- Rules: by class in format 2, by glyph in format 1.
module _ (kind : ℕ) (one : 1 ≤ kind) where
  class_context : (f : ℕ) → compared_format kind f ≡ true → f ≡ 2 → kind ≤ 2
  class_context f a e = go (dec_lt 2 kind)
    where
      go : Dec (2 < kind) → kind ≤ 2
      go (yes l) = absurd (omega (arith, one_format kind f l a))
      go (no l) = omega arith

  pub class_kind : {b : Bool} → b ≡ eqb kind 2 → (f : ℕ) → compared_format kind f ≡ true → f ≡ 2 → kind ≡ cond b 2 1
  class_kind e f a h = rw e (context_kind kind one (class_context f a h))

  pub class_given : {b : Bool} {s : List ℕ} → b ≡ eqb kind 2 → Passes kind s → word s 0 ≡ 2 → ByClass b s
  class_given {b} {s} e p h = record { format = h; sound = rw (← class_kind e (word s 0) p.format h) p.sound }

  first_format : (f : ℕ) → compared_format kind f ≡ true → (f ≡ 2 → ⊥) → (f ≡ 3 → ⊥) → f ≡ 1
  unfolding compared_format
  first_format f a m n = go (dec_lt 2 kind)
    where
      go : Dec (2 < kind) → f ≡ 1
      go (yes l) = one_format kind f l a
      go (no l) =
          let k : kind ≤ 2 = omega arith in
          let q = both (leb 1 f) (leb f 3) (rw (le-leb kind 2 k) at a) in
          omega (arith, leb-true 1 f q.0, leb-true f 3 q.1, m, n)

  pub glyph_given : {s : List ℕ} → kind ≤ 3 → Passes kind s → (word s 0 ≡ 2 → ⊥) → (word s 0 ≡ 3 → ⊥) → ByGlyph kind s
  glyph_given {s} h p m n = record { low = one; high = h; format = first_format (word s 0) p.format m n; sound = p.sound }
