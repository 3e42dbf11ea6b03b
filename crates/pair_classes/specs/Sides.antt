-- Class tables in cells: the map of the classes that stay, and the entries of the new table.
use Rattle.std.specs.Prelude.{ℕ, ◌+◌, ◌≤◌, ◌<◌, ◌≡◌, Bool, true, false, List, length}
use Rattle.meaning.specs.Cut.{class_map, second_map, classes_under}
use Rattle.cell_maps.specs.Cells.{Holds, Kept}
use Rattle.area.specs.Part.{notes}
use Rattle.glyph_runs.specs.Runs.{GlyphMap}
use Rattle.class_stretches.specs.Tables.{NullOrSound}
use Rattle.ranked_maps.specs.Present.{most_cells}
use Rattle.pair_layouts.specs.declared.Classed.{Classed}

-- cells that are enough for any class table: 65,536 for the classes of the glyphs, and those of the class map
abbrev pub table_cells : ℕ
table_cells = 65536 + most_cells

-- the map of the first classes that stay, or of the second ones, by the glyph map and the class table
abbrev pub map_of : Bool → List (ℕ × ℕ) → List (ℕ × ℕ) → List (ℕ × ℕ)
map_of true = second_map
map_of false = class_map

-- what is asked to lay a class table into cells from `list` on: it is null or sound, and the glyph map is good
pub record Asks (s : List ℕ) (at form : ℕ) (glyphs : List ℕ) (list : ℕ) : Type 0 where
  pub sound : NullOrSound s at
  pub map : GlyphMap form glyphs
  pub near : list ≤ 0x1_0000_0000

-- r has the map `news` of the classes of cs that stay, and the entries of the new table under the glyph map g; the map's cells follow those from `list` on in which the classes of the glyphs were listed
pub record Side (news cs g : List (ℕ × ℕ)) (t : List ℕ) (list : ℕ) (r : Classed) : Type 0 where
  pub near : r.map.at ≤ list + 65536
  pub holds : Holds t r.map news
  pub count : r.count ≡ length news
  pub listed : r.entries.at ≡ list
  pub few : list + r.entries.len ≤ r.map.at
  pub entries : notes t r.entries.at r.entries.len ≡ classes_under news g cs

-- They are laid into cells from `list` on, or the mask is 0, since there are too few cells; the cells before `list` are as before.
pub record Sided (news cs g : List (ℕ × ℕ)) (t₀ t : List ℕ) (list : ℕ) (r : Classed) : Type 0 where
  pub kept : Kept list t₀ t
  pub few : r.map.mask < most_cells
  pub room : list + table_cells ≤ length t₀ → r.map.mask ≡ 0 → ⊥
  pub side : (r.map.mask ≡ 0 → ⊥) → Side news cs g t list r
