-- A class table that is laid into cells: its classes, and its class map.
use Prim.Native.Nat.{ℕ, ◌+◌, ◌%◌, ◌≤◌, ◌<◌}
use mathlib.Core.Path.{◌≡◌, ap, ◌∙◌}
use mathlib.Core.List.{List, map}
use native.Mathlib.Omega.{arith}
use lib.ListN.{length}
use Rattle.meaning.specs.Maps.{glyph_entries}
use Rattle.meaning.specs.Cut.{class_map}
use Rattle.glyph_runs.specs.Runs.{map_good}
use Rattle.class_stretches.specs.Tables.{classes_at}
use Rattle.class_lists.specs.declared.ClassList.{ClassList}
use Rattle.ranked_maps.specs.Present.{top_small}
use Rattle.ranked_maps.specs.Mapped.{ToMap, Mapped, Classes, lists_kept, classes_kept, classes_held, classes_count}
use Rattle.covered_classes.specs.Covered.{Coverable, Covered}
use Rattle.class_ranks.specs.Same.{part_alike}
use Rattle.ranked_maps.specs.declared.ClassMap.{ClassMap}
use Rattle.remade_classes.specs.Made.{ListedFront}
use Rattle.remade_classes.specs.declared.Noted.{Noted}
use Rattle.class_sides.specs.Sides.{mark_cells, Asks, SideIn, Sided, InputAsks, InputLaid}
use Rattle.class_sides.specs.declared.Side.{Side}
use Rattle.class_sides.specs.declared.Input.{Input}

module _ {s : List ℕ} {at form : ℕ} {glyphs t₀ : List ℕ} {front to : ℕ} (a : Asks s at form glyphs t₀ front to) where
  module _ {t₁ : List ℕ} {l : ClassList} (w : ListedFront (classes_at s at) (glyph_entries form glyphs) t₀ t₁ front l) where
    -- too few cells for the classes
    pub side_few : (r : Side) → front < l.len → r.classes.map.mask ≡ 0 → Sided s at (glyph_entries form glyphs) t₀ t₁ front to r
    side_few r h z = record {
      same = record { size = w.elsewhere.size; each = λ i b c. w.elsewhere.after i b };
      few = omega arith;
      room = λ f b y. omega (arith, w.few);
      side = λ n. absurd (n z);
    }

    module _ (h : l.len ≤ front) where
      pub may_map : ToMap t₁ 0 l to
      may_map = w.to_map h a.before (omega (arith, a.inside, a.near))

      pub side_laid : {t₂ : List ℕ} {c : ClassMap} → Mapped class_map t₁ t₂ 0 l to c → Sided s at (glyph_entries form glyphs) t₀ t₂ front to (record { len = l.len; classes = c })
      side_laid {t₂} {c} m = record {
        same = record { size = m.placed.kept.size ∙ w.elsewhere.size; each = λ i b d. m.placed.kept.same i d ∙ w.elsewhere.after i b };
        few = m.placed.few;
        room = λ f b y. m.placed.room (omega (arith, w.elsewhere.size)) y;
        side = λ n.
            let k = m.mapped n (classes_at s at) (glyph_entries form glyphs) (w.lists h) w.zero in
            record {
              table = record { sound = a.sound; room = omega (arith, w.long); behind = omega (arith, m.placed.at, a.before); holds = k.holds };
              place = m.placed.at;
              fits = h;
              lists = lists_kept (w.lists h) m.placed.kept (omega (arith, a.before));
              classes = k;
            };
      }

-- The input.
module _ {s : List ℕ} {at form : ℕ} {glyphs t₀ : List ℕ} {noted : Noted} (a : InputAsks s at form glyphs noted t₀) where
  abbrev g : List (ℕ × ℕ)
  g = glyph_entries form glyphs

  module _ {t₁ : List ℕ} {c : Side} (w : Sided s at g t₀ t₁ noted.at (noted.at + noted.len) c) where
    -- too few cells for the class map
    pub input_few : (r : Input) → c.classes.map.mask ≡ 0 → r.map.mask ≡ 0 → InputLaid s at g noted t₀ t₁ r
    input_few r z y = record { same = w.same; few = omega arith; room = λ f h n. w.room f (omega arith) z; side = λ n. absurd (n y) }

    module _ (z : c.classes.map.mask ≡ 0 → ⊥) where
      side : SideIn g s at t₁ noted.at (noted.at + noted.len) c
      side = w.side z

      map_ends : c.classes.map.at + c.classes.map.mask < length t₁
      map_ends = side.classes.holds.inside.within

      few_marks : mark_cells c.classes.map ≤ 2048
      few_marks = omega (arith, top_small c.classes.map (omega (arith, w.few)))

      -- the cells of the marks are near
      pub marks_near : c.classes.map.at + c.classes.map.mask + 1 + mark_cells c.classes.map ≤ 0x1_0000_1000
      marks_near = omega (arith, map_ends, w.same.size, a.near, few_marks)

      module _ {marks cells : ℕ} (p : marks ≡ c.classes.map.at + c.classes.map.mask + 1) (m : cells ≡ mark_cells c.classes.map) where
        -- too few cells for the marks
        pub marks_few : (r : Input) → length t₁ < marks + cells → r.map.mask ≡ 0 → InputLaid s at g noted t₀ t₁ r
        marks_few r h y = record {
          same = w.same;
          few = omega arith;
          room = λ f b n. omega (arith, side.place, w.few, w.same.size, few_marks);
          side = λ n. absurd (n y);
        }

        module _ (h : marks + cells ≤ length t₁) where
          -- the marks may be made
          pub may_mark : Coverable t₁ noted.at noted.len 0 c.len marks × (marks + cells ≤ length t₁)
          may_mark = (record { notes = omega (arith, side.place); classes = omega (arith, side.place, side.fits); inside = omega arith; near = omega (arith, a.near, w.same.size) }, h)

          pub input_laid : {t₂ : List ℕ} → Covered t₁ t₂ noted.at noted.len 0 c.len marks cells
              → InputLaid s at g noted t₀ t₂ (record { map = c.classes.map; classes = c.classes.count; marks = marks })
          input_laid {t₂} v =
              let k : Classes (class_map g (classes_at s at)) t₂ c.classes = classes_kept side.classes v.kept (omega arith) in
              record {
                same = record { size = v.kept.size ∙ w.same.size; each = λ i b d. v.kept.same i (omega (arith, side.place)) ∙ w.same.each i b d };
                few = w.few;
                room = λ f b y. z y;
                side = λ y cov up told. record {
                  table = record { sound = a.sound; room = side.table.room; behind = side.table.behind; holds = k.holds };
                  place = omega (arith, side.place);
                  behind = p;
                  inside = omega (arith, v.kept.size);
                  held = classes_held g (classes_at s at) k;
                  count = classes_count g (classes_at s at) k;
                  covered = λ x l. v.classes (classes_at s at) g cov (map_good a.map) side.lists up (ap (map (λ x. x % 65536)) (part_alike w.same noted.at noted.len (omega arith) (omega arith)) ∙ told) x (omega arith);
                };
              }
