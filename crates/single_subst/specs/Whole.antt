-- What a cut asks, and what it asks of the cells.
use Rattle.std.specs.Prelude.{ℕ, ◌≤◌, ◌<◌, ◌≡◌, refl, Bool, true, false, cond, List, [], length, eqb, None}
use Rattle.meaning.specs.Words.{word, words}
use Rattle.meaning.specs.Maps.{glyph_entries}
use Rattle.meaning.specs.Parts.{coverage}
use Rattle.meaning.specs.Tables.{Table, reach, single}
use Rattle.meaning.specs.Fault.{single_fault}
use Rattle.meaning.specs.Cut.{cut}
use Rattle.meaning.specs.Subset.{limit}
use Rattle.glyph_runs.specs.Runs.{GlyphMap}
use Rattle.cell_maps.specs.Cells.{Holds}
use Rattle.cell_maps.specs.declared.Map.{Map}

-- the source has no fault and is not over the limit, and the glyph map is good
pub record Sound (form : ℕ) (s glyphs : List ℕ) : Type 0 where
  pub sound : single_fault s ≡ None
  pub source : length s ≤ limit
  pub map : GlyphMap form glyphs

-- the cells of m, from the first on, hold the glyph map, and the coverage is not null
pub record MapLaid (form : ℕ) (s glyphs : List ℕ) (m : Map) (t : List ℕ) : Type 0 where
  pub front : m.at ≡ 0
  pub mask : m.mask < 65536
  pub holds : Holds t m (glyph_entries form glyphs)
  pub cover : word s 2 ≡ 0 → ⊥

-- cells that are enough for any source
abbrev pub enough_cells : ℕ
enough_cells = 196609

-- lookups have no say in what is left of a single substitution
pub any_lookups : (g l : List (ℕ × ℕ)) (s : List ℕ) → cut g l (single s) ≡ cut g [] (single s)
unfolding cut single
any_lookups g l s = step (eqb (word s 0) 1)
  where
    step : (t : Bool) → cut g l (cond t (Table.single_delta (reach (coverage s) s 0 2) (word s 4)) (Table.single_list (reach (coverage s) s 0 2) (words s 6 (word s 4))))
        ≡ cut g [] (cond t (Table.single_delta (reach (coverage s) s 0 2) (word s 4)) (Table.single_list (reach (coverage s) s 0 2) (words s 6 (word s 4))))
    step true = refl
    step false = refl
