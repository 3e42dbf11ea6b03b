-- What a cut asks, by its steps, and what it asks of the cells.
use Rattle.std.specs.Prelude.{ℕ, ◌+◌, ◌*◌, ◌≤◌, ◌<◌, ◌≡◌, Bool, true, ◌||◌, List, length, eqb, None, Some}
use Rattle.meaning.specs.Words.{word, find}
use Rattle.meaning.specs.Maps.{good_form, glyph_entries, good_glyph_map}
use Rattle.meaning.specs.Parts.{coverage, coverage_sound, classes, classes_sound}
use Rattle.meaning.specs.Tables.{Table, field_count, cell_rows, pair_table}
use Rattle.meaning.specs.Fault.{fault}
use Rattle.meaning.specs.Cut.{class_map, new_coverage, covered_map}
use Rattle.laws.specs.ReadsBack.{Good}
use Rattle.cell_maps.specs.Cells.{Holds}
use Rattle.cell_maps.specs.declared.Map.{Map}
use Rattle.area.specs.Part.{news, notes}
use Rattle.range_meets.specs.Met.{met}
use Rattle.glyph_runs.specs.Runs.{GlyphMap}
use Rattle.ranked_maps.specs.Present.{most_cells}
use Rattle.class_formats.specs.Cells.{HasCells}
use Rattle.class_formats.specs.Kept.{cell_size}
use Rattle.pair_classes.specs.Sides.{table_cells, Side}
use Rattle.pair_layouts.specs.declared.Noted.{Noted}
use Rattle.pair_layouts.specs.declared.Classed.{Classed}

-- cells that are enough for any source: 65,536 for the glyph map, as many for the notes, and those of two class tables
abbrev pub enough_cells : ℕ
enough_cells = 65536 + 65536 + 2 * table_cells

-- the source is a pair table by class and has no fault, and the glyph map is good
pub record Sound (s : List ℕ) (form : ℕ) (glyphs : List ℕ) : Type 0 where
  pub sound : fault 4 s ≡ None
  pub format : word s 0 ≡ 1 → ⊥
  pub form_good : good_form form ≡ true
  pub glyphs_good : good_glyph_map form glyphs ≡ true

-- the coverage or one of the class tables is null
abbrev pub has_null : List ℕ → Bool
has_null s = eqb (word s 2) 0 || (eqb (word s 8) 0 || eqb (word s 10) 0)

-- the table of a source where none is null
abbrev pub kern_table : List ℕ → Table
kern_table s =
    Table.class_pairs (Some (coverage s (word s 2))) (Some (classes s (word s 8))) (Some (classes s (word s 10))) (word s 4) (word s 6) (word s 14)
    (cell_rows s (field_count (word s 4)) (field_count (word s 6)) (word s 14) 16 (word s 12))

-- what the check says of such a source
pub record Kerning (s : List ℕ) : Type 0 where
  pub header : 16 ≤ length s
  pub has : HasCells s (cell_size (word s 4) (word s 6))
  pub cover : coverage_sound s (word s 2) ≡ true
  pub first : classes_sound s (word s 8) ≡ true
  pub first_there : word s 8 ≡ 0 → ⊥
  pub second : classes_sound s (word s 10) ≡ true
  pub second_there : word s 10 ≡ 0 → ⊥
  pub table : pair_table s ≡ kern_table s
  pub good : Good (kern_table s)

-- what is asked where the cells of m, from the first on, hold the glyph map
pub record Begins (s : List ℕ) (form : ℕ) (glyphs : List ℕ) (m : Map) (t : List ℕ) : Type 0 where
  pub kern : Kerning s
  pub map : GlyphMap form glyphs
  pub front : m.at ≡ 0
  pub mask : m.mask < 65536
  pub holds : Holds t m (glyph_entries form glyphs)

-- what is asked where the covered glyphs are noted in cells, of which there is one
pub record Noting (s : List ℕ) (form : ℕ) (glyphs : List ℕ) (cover : Noted) (t : List ℕ) : Type 0 where
  pub kern : Kerning s
  pub map : GlyphMap form glyphs
  pub noted : notes t cover.at cover.len ≡ met (find (glyph_entries form glyphs)) 0 (coverage s (word s 2))
  pub inside : cover.at + cover.len ≤ length t
  pub some : 0 < cover.len
  pub few : cover.len ≤ 65536
  pub near : cover.at ≤ 65536

-- the glyph map of the covered glyphs
abbrev pub covered_of : List ℕ → ℕ → List ℕ → List (ℕ × ℕ)
covered_of s form glyphs = covered_map (glyph_entries form glyphs) (coverage s (word s 2))

-- what is asked where besides the first classes lie in the cells behind the notes
pub record FirstIn (s : List ℕ) (form : ℕ) (glyphs : List ℕ) (cover : Noted) (first : Classed) (t : List ℕ) : Type 0 where
  pub kern : Kerning s
  pub map : GlyphMap form glyphs
  pub glyphs_noted : news t cover.at cover.len ≡ new_coverage (glyph_entries form glyphs) (coverage s (word s 2))
  pub inside : cover.at + cover.len ≤ length t
  pub some : 0 < cover.len
  pub few : cover.len ≤ 65536
  pub near : cover.at ≤ 65536
  pub mask : first.map.mask < most_cells
  pub side : Side (class_map (covered_of s form glyphs) (classes s (word s 8))) (classes s (word s 8)) (covered_of s form glyphs) t (cover.at + cover.len) first
