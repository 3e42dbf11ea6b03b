-- A new class table, made in the first cells when it is written.
use Rattle.std.specs.Prelude.{ℕ, ◌+◌, ◌≤◌, ◌<◌, ◌≡◌, Bool, cond, length, Option, None, Some}
use Rattle.std.proofs.Math.Path.{refl, sym, ap}
use Rattle.std.proofs.Common.{◌∙◌, arith}
use Rattle.std.proofs.Math.Bool.{true, false}
use mathlib.Core.List.{List}
use Rattle.std.proofs.Math.Dec.{eqb}
use borrow.Author.Tests.{eq-eqb, ne_eqb, eqb-true, eqb-false}
use Rattle.meaning.specs.Words.{keys, ascends}
use Rattle.meaning.specs.Maps.{glyph_entries}
use Rattle.meaning.specs.Cut.{class_map, new_classes, new_classes?}
use Rattle.meaning.specs.Layout.{block, class_words}
use Rattle.laws.specs.Stands.{All, Word}
use Rattle.cell_maps.specs.Cells.{Holds}
use Rattle.area.specs.Part.{notes}
use Rattle.glyph_runs.specs.Runs.{GlyphMap}
use Rattle.class_stretches.specs.Tables.{table_at, classes_at, NullOrSound, null_table, table_there, lists_there}
use Rattle.class_lists.specs.Elsewhere.{Elsewhere}
use Rattle.class_lists.specs.Listed.{classed, holds_zero}
use Rattle.class_lists.specs.declared.ClassList.{ClassList}
use Rattle.ranked_maps.specs.Mapped.{Lists, ToMap}
use Rattle.class_ranks.specs.Same.{Same, after_same, holds_same}
use Rattle.remade_classes.specs.declared.OldTable.{OldTable}
use Rattle.remade_classes.specs.declared.NewTable.{NewTable}

-- The first `front` cells hold the classes of the glyphs, if there is room, so that their map can be laid behind; r has how many, and whether some glyph holds class 0. The other cells are as before.
pub record ListedFront (cs g : List (ℕ × ℕ)) (t₀ t : List ℕ) (front : ℕ) (r : ClassList) : Type 0 where
  pub elsewhere : Elsewhere 0 front t₀ t
  pub long : r.len ≡ length (classed cs g)
  pub few : r.len ≤ 65536
  pub zero : r.zero ≡ holds_zero cs g
  pub lists : r.len ≤ front → Lists cs g t 0 r.len
  pub to_map : {to : ℕ} → r.len ≤ front → front ≤ to → to < 0x1_0000_0000_0000 → ToMap t 0 r to

-- the block of the new class table, by the definitions; null if the old one is
abbrev pub new_table : List (ℕ × ℕ) → List ℕ → ℕ → Option (List ℕ)
new_table g s at = block class_words (new_classes? g (table_at s at))

-- the block of a new class table, whose entries are noted in cells; null if the old one is
unfoldable pub table_block : List ℕ → NewTable → Option (List ℕ)
table_block t n = cond (eqb n.old 0) None (Some (class_words (notes t n.list n.len)))

module _ (t : List ℕ) (n : NewTable) where
  pub block_null : n.old ≡ 0 → table_block t n ≡ None
  unfolding table_block
  block_null z = rw (eq-eqb n.old 0 z)

  pub block_there : (n.old ≡ 0 → ⊥) → table_block t n ≡ Some (class_words (notes t n.list n.len))
  unfolding table_block
  block_there z = rw (ne_eqb n.old 0 z)

  -- it is the one of the definitions, if the entries are
  pub table_is : (g : List (ℕ × ℕ)) (s : List ℕ) → notes t n.list n.len ≡ new_classes g (classes_at s n.old) → table_block t n ≡ new_table g s n.old
  unfolding new_classes? block
  table_is g s e = step (eqb n.old 0) refl
    where
      step : (b : Bool) → eqb n.old 0 ≡ b → table_block t n ≡ block class_words (new_classes? g (table_at s n.old))
      step true q =
          let z = eqb-true n.old 0 q in
          block_null z ∙ sym (rw (null_table s z) refl)
      step false q =
          let z : n.old ≡ 0 → ⊥ = eqb-false n.old 0 q in
          block_there z ∙ ap (λ (es : List (ℕ × ℕ)). Some (class_words es)) (e ∙ ap (new_classes g) (lists_there s z)) ∙ sym (rw (table_there s z) refl)

-- the entries of a new class table stand in cells, and its glyphs ascend; its words fit, if its count does
pub record TableIn (t : List ℕ) (n : NewTable) : Type 0 where
  pub inside : n.list + n.len ≤ length t
  pub few : n.len ≤ 65536
  pub ascend : ascends (keys (notes t n.list n.len)) ≡ true
  pub words : length (class_words (notes t n.list n.len)) ≤ 65538 → All Word (class_words (notes t n.list n.len))

-- A class table of the source that can be made again in the first `front` cells: it is null or sound, the classes of the glyphs of g have room there, and its class map stands behind them.
pub record OldIn (g : List (ℕ × ℕ)) (s t : List ℕ) (front : ℕ) (o : OldTable) : Type 0 where
  pub sound : NullOrSound s o.at
  pub room : length (classed (classes_at s o.at) g) ≤ front
  pub behind : front ≤ o.map.at
  pub holds : Holds t o.map (class_map g (classes_at s o.at))

-- it can be made where the cells from there on are as before, up to the end of its class map
pub old_same : {g : List (ℕ × ℕ)} {s t u : List ℕ} {front end : ℕ} {o : OldTable} → Same front end t u → o.map.at + o.map.mask < end → OldIn g s t front o → OldIn g s u front o
old_same {o = o} k h i = record { sound = i.sound; room = i.room; behind = i.behind; holds = holds_same k o.map i.behind h i.holds }

pub old_stays : {g : List (ℕ × ℕ)} {s t u : List ℕ} {front : ℕ} {o : OldTable} → Elsewhere 0 front t u → OldIn g s t front o → OldIn g s u front o
old_stays {o = o} k i = old_same (after_same (o.map.at + o.map.mask + 1) k) (omega arith) i

-- what is asked to make the new one of it
pub record MakeAsked (s : List ℕ) (o : OldTable) (glyphs : List ℕ) (form : ℕ) (t : List ℕ) (front : ℕ) : Type 0 where
  pub map : GlyphMap form glyphs
  pub inside : front ≤ length t
  pub old_in : OldIn (glyph_entries form glyphs) s t front o

-- r is the new one of the class table at `at`, and only the first `front` cells changed
pub record Made (g : List (ℕ × ℕ)) (s : List ℕ) (at : ℕ) (t₀ t : List ℕ) (front : ℕ) (r : NewTable) : Type 0 where
  pub in_cells : TableIn t r
  pub is : table_block t r ≡ new_table g s at
  pub elsewhere : Elsewhere 0 front t₀ t
