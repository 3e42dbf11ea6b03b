-- Stretches of glyphs that hold one class, and the search for the class range of a glyph.
use Rattle.std.specs.Prelude.{ℕ, ◌+◌, ◌*◌, ◌≤◌, ◌<◌, ◌≡◌, true, List, length}
use Rattle.meaning.specs.Words.{word, triples}
use Rattle.meaning.specs.Parts.{ranges_ascend, range_classes, class_of}
use Rattle.class_stretches.specs.Tables.{classes_at}
use Rattle.class_stretches.specs.declared.Stretch.{Stretch}

-- the n class ranges from `at` on lie inside the source and ascend
pub record Ranges (s : List ℕ) (at n : ℕ) : Type 0 where
  pub inside : at + 6 * n ≤ length s
  pub rise : ranges_ascend 0 (triples s at n) ≡ true

-- the range before the r-th, if there is one, ends before the glyph x
abbrev pub Passed : List ℕ → ℕ → ℕ → ℕ → Type 0
Passed s at x r = (k : ℕ) → k + 1 ≡ r → word s (at + 6 * k + 2) < x

-- of n ranges from `at` on, which ascend, the r-th is the first that ends at the glyph x or later; r is n if none does
pub record Ended (s : List ℕ) (at n x r : ℕ) : Type 0 where
  pub within : r ≤ n
  pub passed : Passed s at x r
  pub ends : r < n → x ≤ word s (at + 6 * r + 2)

-- the glyphs from x to the last of the stretch r hold its class in the table that lists cs
pub record Stretched (cs : List (ℕ × ℕ)) (x : ℕ) (r : Stretch) : Type 0 where
  pub holds : x ≤ r.last
  pub end : r.last < 65536
  pub same : (y : ℕ) → x ≤ y → y ≤ r.last → r.class ≡ class_of cs y
  pub small : r.class < 65536

-- they do in the n class ranges from `at` on, and the ranges before its next end before each later glyph
pub record Ranged (s : List ℕ) (at n x : ℕ) (r : Stretch) : Type 0 where
  pub stretch : Stretched (range_classes (triples s at n)) x r
  pub within : r.next ≤ n
  pub passed : (y : ℕ) → r.last < y → Passed s at y r.next

-- if the class table at `at` is by ranges, those before `next` end before the glyph x
pub record Hint (s : List ℕ) (at x next : ℕ) : Type 0 where
  pub ranges : (at ≡ 0 → ⊥) → (word s at ≡ 1 → ⊥) → (next ≤ word s (at + 2)) × Passed s (at + 4) x next

-- the glyphs from x to the last of the stretch r hold its class in the class table at `at`, and the search for a later glyph may begin with its next
pub record Found (s : List ℕ) (at x : ℕ) (r : Stretch) : Type 0 where
  pub stretch : Stretched (classes_at s at) x r
  pub hint : (y : ℕ) → r.last < y → Hint s at y r.next
