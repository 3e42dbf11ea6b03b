-- A new class table, made in the first cells.
use Prim.Native.Nat.{ℕ, ◌+◌, ◌/◌, ◌%◌, ◌≤◌, ◌<◌}
use mathlib.Core.Path.{◌≡◌, ap, ◌∙◌}
use mathlib.Core.List.{List, ◌++◌, map}
use native.Mathlib.Omega.{arith}
use lib.ListN.{length, get_or, take, drop, get_or-append}
use Rattle.meaning.specs.Words.{values}
use Rattle.meaning.specs.Maps.{glyph_entries}
use Rattle.meaning.specs.Cut.{class_map, new_classes}
use Rattle.laws.specs.Runs.{up_ascends}
use Rattle.laws.specs.CutGood.{new_classes_lem}
use Rattle.laws.specs.Fits.{classes_fit}
use Rattle.area.specs.Part.{notes}
use Rattle.area.specs.Stored.{part_same}
use Rattle.glyph_runs.specs.Runs.{map_good}
use Rattle.class_stretches.specs.Tables.{classes_at}
use Rattle.class_lists.specs.Elsewhere.{elsewhere_more, elsewhere_wide}
use Rattle.class_lists.specs.Listed.{classed, Listed}
use Rattle.class_lists.specs.declared.ClassList.{ClassList}
use Rattle.ranked_maps.specs.Mapped.{Entries, may_map, zero_first, entries_ascend}
use Rattle.class_spots.specs.declared.Turn.{Turn}
use Rattle.remade_classes.specs.Front.{front_size, front_elsewhere}
use Rattle.remade_classes.specs.Made.{ListedFront, new_table, table_block, table_is, TableIn, old_stays, MakeAsked, Made}
use Rattle.remade_classes.specs.Tail.{BlockAsked, PlacedTable}
use Rattle.remade_classes.specs.declared.OldTable.{OldTable}
use Rattle.remade_classes.specs.declared.NewTable.{NewTable}

-- the classes are listed in the front
pub listed_front : {cs g : List (ℕ × ℕ)} {front : ℕ} (t₀ : List ℕ) {cells : List ℕ} {r : ClassList} → front ≤ length t₀ → Listed cs g (take front t₀) cells 0 r → ListedFront cs g t₀ (cells ++ drop front t₀) front r
listed_front {cs} {g} {front} t₀ {cells} {r} h w = record {
  elsewhere = front_elsewhere front t₀ cells h w.kept.size;
  long = w.long;
  few = w.few;
  zero = w.zero;
  lists = λ l. record { each = is l };
  to_map = λ l p n.
      let m = may_map w (omega arith) n in
      record {
        place = omega arith;
        near = n;
        small = w.small;
        low = λ h j b. rw (same (0 + j) (omega (arith, size))) (m.low (omega (arith, size)) j b);
      };
}
  where
    size : length cells ≡ front
    size = front_size front t₀ cells h w.kept.size

    same : (j : ℕ) → j < length cells → get_or (cells ++ drop front t₀) j 0 ≡ get_or cells j 0
    same j h = get_or-append cells (drop front t₀) 0 j h

    is : r.len ≤ front → notes (cells ++ drop front t₀) 0 r.len ≡ classed cs g
    is l =
        ap (map (λ c. (c / 65536, c % 65536))) (part_same (cells ++ drop front t₀) cells 0 r.len (λ j a b. same j (omega (arith, size))))
        ∙ w.cells (omega (arith, size, w.kept.size))

-- the entries of the new class table are written in their place
pub made : {s : List ℕ} {o : OldTable} {glyphs : List ℕ} {form : ℕ} {t₀ t₁ t₂ : List ℕ} {front : ℕ} {l : ClassList} {n : ℕ} → MakeAsked s o glyphs form t₀ front → ListedFront (classes_at s o.at) (glyph_entries form glyphs) t₀ t₁ front l → Entries t₁ t₂ 0 l.len o.map n
    → Made (glyph_entries form glyphs) s o.at t₀ t₂ front (record { old = o.at; list = 0; len = n })
unfolding new_classes
made {s} {o} {glyphs} {form} {t₂ = t₂} {front = front} {l = l} {n = n} a w e =
    let g = glyph_entries form glyphs in
    let cs = classes_at s o.at in
    let good = map_good a.map in
    let old = old_stays w.elsewhere a.old_in in
    let fits : l.len ≤ front = omega (arith, w.long, a.old_in.room) in
    let is : notes t₂ 0 n ≡ new_classes g cs = e.entries cs g (class_map g cs) (w.lists fits) old.holds (zero_first g cs) in
    record {
      in_cells = record {
        inside = omega (arith, e.few, fits, a.inside, w.elsewhere.size, e.elsewhere.size);
        few = omega (arith, e.few, w.few);
        ascend = entries_ascend e (w.lists fits) old.holds (up_ascends 0 (values g) good.new);
        words = rw is (classes_fit (new_classes g cs) (new_classes_lem g good cs)).0;
      };
      is = table_is t₂ (record { old = o.at; list = 0; len = n }) g s is;
      elsewhere = elsewhere_more w.elsewhere (elsewhere_wide (omega arith) (omega arith) e.elsewhere);
    }

-- and it is written
module _ {g : List (ℕ × ℕ)} {s : List ℕ} {at : ℕ} {t₀ t : List ℕ} {front : ℕ} {n : NewTable} {turn : Turn} {gap : ℕ} {area book : List ℕ} (m : Made g s at t₀ t front n) where
  pub made_asked : BlockAsked (new_table g s at) turn gap area book → TableIn t n × BlockAsked (table_block t n) turn gap area book
  made_asked a = (m.in_cells, rw m.is a)

  pub made_placed : {after next : List ℕ} {r : ℕ} → PlacedTable (table_block t n) turn gap area book after next r → PlacedTable (new_table g s at) turn gap area book after next r
  made_placed h = rw m.is at h
