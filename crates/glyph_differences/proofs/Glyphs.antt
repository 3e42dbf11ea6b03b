-- The ways through the list of one first glyph.
use Prim.Native.Nat.{ℕ, ◌+◌, ◌*◌, ◌≤◌, ◌<◌}
use mathlib.Core.Path.{◌≡◌, sym}
use Rattle.std.specs.Prelude.{None, Some}
use mathlib.Core.List.{List, [], ◌∷◌}
use native.Mathlib.Omega.{arith}
use lib.Dec.{eqb}
use Rattle.meaning.specs.Words.{word}
use Rattle.coverage_index.specs.Index.{index_of}
use Rattle.differences.specs.Entries.{rule_entries}
use Rattle.listing.specs.Listed.{entry_of, Listed}
use Rattle.first_glyphs.specs.First.{cover_of, right_only, index_below, at_glyph}
use Rattle.gathered.specs.Gathered.{numbers_at}
use Rattle.set_differences.proofs.Going.{glyph_right, glyph_left, glyph_both}
use Rattle.glyph_differences.specs.Slots.{numbers_by, SlotTable, in_slots}

-- the numbers of the set in the slot i
abbrev slot_of : List ℕ → List ℕ → ℕ → ℕ → List ℕ
slot_of num s side i = numbers_at num s side (word s (6 + 2 * i))

-- a slot has a place
pub slot_few : {s : List ℕ} (a : SlotTable s) (g : ℕ) {i : ℕ} → Some i ≡ index_of (cover_of s) g → i < 65536
slot_few {s} a g {i} e = omega (arith, index_below (cover_of s) g i (sym e), a.enough, a.few)

module _ (num : List ℕ) {s t : List ℕ} (a : SlotTable s) (b : SlotTable t) (g : ℕ) {out next : List ℕ} {pos q : ℕ} where
  -- the left subtable does not cover the glyph
  pub slot_right : None ≡ index_of (cover_of s) g → Listed (right_only g (index_of (cover_of t) g)) out pos next q × (q ≤ pos + 12) → Listed (at_glyph (rule_entries eqb) (numbers_by num s 0) (numbers_by num t 1) g) out pos next q × (q ≤ pos + 0x18_0000)
  slot_right h l = glyph_right (numbers_by num s 0) (numbers_by num t 1) (cover_of s) (cover_of t) (slot_of num s 0) (slot_of num t 1) g (in_slots num s 0 a g) (in_slots num t 1 b g) h l

  module _ {i : ℕ} (h : Some i ≡ index_of (cover_of s) g) where
    -- only the left one covers it
    pub slot_left : None ≡ index_of (cover_of t) g → Listed (entry_of 2 0 g 0 0 0 ∷ []) out pos next q → Listed (at_glyph (rule_entries eqb) (numbers_by num s 0) (numbers_by num t 1) g) out pos next q × (q ≤ pos + 0x18_0000)
    slot_left k l = glyph_left (numbers_by num s 0) (numbers_by num t 1) (cover_of s) (cover_of t) (slot_of num s 0) (slot_of num t 1) g (in_slots num s 0 a g) (in_slots num t 1 b g) h k l

    -- both cover it
    pub slot_both : {j l m : ℕ} → Some j ≡ index_of (cover_of t) g → l ≡ word s (6 + 2 * i) → m ≡ word t (6 + 2 * j) → Listed (rule_entries eqb g (numbers_at num s 0 l) (numbers_at num t 1 m)) out pos next q
        → Listed (at_glyph (rule_entries eqb) (numbers_by num s 0) (numbers_by num t 1) g) out pos next q
    slot_both k x y l = glyph_both (numbers_by num s 0) (numbers_by num t 1) (cover_of s) (cover_of t) (slot_of num s 0) (slot_of num t 1) g (in_slots num s 0 a g) (in_slots num t 1 b g) h k (rw (x, y) at l)
