-- A class table that is laid into cells: its map, and the entries of the new one.
use Prim.Native.Nat.{ℕ, ◌+◌, ◌≤◌}
use mathlib.Core.Path.{◌≡◌, refl}
use Rattle.std.specs.Prelude.{unwrap_or}
use mathlib.Core.Bool.{Bool, true, false}
use mathlib.Core.List.{List}
use native.Mathlib.Omega.{arith}
use lib.ListN.{length}
use Rattle.meaning.specs.Words.{find}
use Rattle.cell_maps.specs.Cells.{Inside, Kept, kept_more}
use Rattle.class_lists.specs.Elsewhere.{elsewhere_kept}
use Rattle.class_lists.specs.Listed.{Listed}
use Rattle.class_lists.specs.declared.ClassList.{ClassList}
use Rattle.class_ranks.specs.Same.{after_same, holds_same}
use Rattle.ranked_maps.specs.Mapped.{Lists, ToMap, Classes, Mapped, Entries, lists_made, lists_kept, may_map, zero_first, zero_second}
use Rattle.ranked_maps.specs.declared.ClassMap.{ClassMap}
use Rattle.pair_classes.specs.Sides.{table_cells, map_of, Asks, Sided}

-- class 0 keeps its number in either map
pub map_zero : (second : Bool) (g cs : List (ℕ × ℕ)) → unwrap_or (find (map_of second g cs) 0) 0 ≡ 0
map_zero true = zero_second
map_zero false = zero_first

module _ {s : List ℕ} {at form : ℕ} {glyphs : List ℕ} {list : ℕ} (a : Asks s at form glyphs list) {cs g : List (ℕ × ℕ)} {t₀ t₁ : List ℕ} {l : ClassList} (o : Listed cs g t₀ t₁ list l) where
  -- the map may stand right behind the list
  pub to_map : ToMap t₁ list l (list + l.len)
  to_map = may_map o (omega arith) (omega (arith, a.near, o.few))

-- The list, and the map behind it.
module _ (made : List (ℕ × ℕ) → List (ℕ × ℕ) → List (ℕ × ℕ)) {cs g : List (ℕ × ℕ)} {t₀ t₁ t₂ : List ℕ} {list : ℕ} {l : ClassList} {c : ClassMap} (o : Listed cs g t₀ t₁ list l) (w : Mapped made t₁ t₂ list l (list + l.len) c) where
  kept : Kept list t₀ t₂
  kept = kept_more o.kept (record { size = w.placed.kept.size; same = λ i h. w.placed.kept.same i (omega arith) })

  room : list + table_cells ≤ length t₀ → c.map.mask ≡ 0 → ⊥
  room h = w.placed.room (omega (arith, o.few, o.kept.size))

  -- there are too few cells
  pub sided_few : {n : ℕ} → c.map.mask ≡ 0 → Sided (made g cs) cs g t₀ t₂ list (record { map = c.map; count = n; entries = record { at = list; len = 0 } })
  sided_few z = record { kept = kept; few = w.placed.few; room = room; side = λ y. absurd (y z) }

  module _ (z : c.map.mask ≡ 0 → ⊥) where
    pub may_enter : Inside t₂ c.map × (list + l.len ≤ c.map.at)
    may_enter = (w.placed.inside z, omega (arith, w.placed.at))

    inside : list + l.len ≤ length t₁
    inside = omega (arith, (w.placed.inside z).within, w.placed.at, w.placed.kept.size)

    lists : Lists cs g t₁ list l.len
    lists = lists_made o inside

    classes : Classes (made g cs) t₂ c
    classes = w.mapped z cs g lists o.zero

    -- the entries stand in the place of the classes, and the map behind them is as before
    pub sided : unwrap_or (find (made g cs) 0) 0 ≡ 0 → {t : List ℕ} {n : ℕ} → Entries t₂ t list l.len c.map n
        → Sided (made g cs) cs g t₀ t list (record { map = c.map; count = c.count; entries = record { at = list; len = n } })
    sided zero e = record {
      kept = kept_more kept (elsewhere_kept e.elsewhere);
      few = w.placed.few;
      room = room;
      side = λ y. record {
        near = omega (arith, w.placed.at, o.few);
        holds = holds_same (after_same (c.map.at + c.map.mask + 1) e.elsewhere) c.map (omega (arith, w.placed.at)) (omega arith) classes.holds;
        count = classes.count;
        listed = refl;
        few = omega (arith, w.placed.at, e.few);
        entries = e.entries cs g (made g cs) (lists_kept lists w.placed.kept (omega arith)) classes.holds zero;
      };
    }
