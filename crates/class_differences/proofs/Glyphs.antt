-- The ways through the list of one first glyph.
use Prim.Native.Nat.{ℕ, ◌+◌, ◌≤◌}
use mathlib.Core.Path.{◌≡◌}
use mathlib.Core.Bool.{Bool}
use Rattle.std.specs.Prelude.{None, Some}
use mathlib.Core.List.{List, [], ◌∷◌}
use lib.Dec.{eqb}
use Rattle.coverage_index.specs.Index.{index_of}
use Rattle.differences.specs.Entries.{rule_entries}
use Rattle.listing.specs.Listed.{entry_of, Listed}
use Rattle.first_glyphs.specs.First.{cover_of, right_only, at_glyph}
use Rattle.gathered.specs.Gathered.{numbers_at}
use Rattle.set_differences.proofs.Going.{glyph_right, glyph_left, glyph_both}
use Rattle.class_tables.specs.Contexts.{set_place}
use Rattle.class_differences.specs.Reached.{numbers_by, in_classes}

-- the numbers of the set of the glyph's class, whichever its index
abbrev reached : Bool → List ℕ → ℕ → List ℕ → ℕ → ℕ → List ℕ
reached chained num g src side i = numbers_at num src side (set_place chained src g)

module _ (chained : Bool) (num s t : List ℕ) (g : ℕ) {out next : List ℕ} {pos q : ℕ} where
  -- the left context does not cover the glyph
  pub class_right : None ≡ index_of (cover_of s) g → Listed (right_only g (index_of (cover_of t) g)) out pos next q × (q ≤ pos + 12) → Listed (at_glyph (rule_entries eqb) (numbers_by chained num s 0) (numbers_by chained num t 1) g) out pos next q × (q ≤ pos + 0x18_0000)
  class_right h l = glyph_right (numbers_by chained num s 0) (numbers_by chained num t 1) (cover_of s) (cover_of t) (reached chained num g s 0) (reached chained num g t 1) g (in_classes chained num s 0 g) (in_classes chained num t 1 g) h l

  module _ {i : ℕ} (h : Some i ≡ index_of (cover_of s) g) where
    -- only the left one covers it
    pub class_left : None ≡ index_of (cover_of t) g → Listed (entry_of 2 0 g 0 0 0 ∷ []) out pos next q → Listed (at_glyph (rule_entries eqb) (numbers_by chained num s 0) (numbers_by chained num t 1) g) out pos next q × (q ≤ pos + 0x18_0000)
    class_left k l = glyph_left (numbers_by chained num s 0) (numbers_by chained num t 1) (cover_of s) (cover_of t) (reached chained num g s 0) (reached chained num g t 1) g (in_classes chained num s 0 g) (in_classes chained num t 1 g) h k l

    -- both cover it
    pub class_both : {j l m : ℕ} → Some j ≡ index_of (cover_of t) g → l ≡ set_place chained s g → m ≡ set_place chained t g → Listed (rule_entries eqb g (numbers_at num s 0 l) (numbers_at num t 1 m)) out pos next q
        → Listed (at_glyph (rule_entries eqb) (numbers_by chained num s 0) (numbers_by chained num t 1) g) out pos next q
    class_both k x y l = glyph_both (numbers_by chained num s 0) (numbers_by chained num t 1) (cover_of s) (cover_of t) (reached chained num g s 0) (reached chained num g t 1) g (in_classes chained num s 0 g) (in_classes chained num t 1 g) h k (rw (x, y) at l)
