-- What a glyph map in either form is asked about a coverage.
use Rattle.std.specs.Prelude.{ℕ, ◌+◌, ◌/◌, ◌≤◌, ◌<◌, ◌≡◌, true, cond, List, length, eqb}
use Rattle.meaning.specs.Maps.{glyph_entries}
use Rattle.meaning.specs.Parts.{coverage, coverage_sound}
use Rattle.glyph_runs.specs.Runs.{GlyphMap}
use Rattle.cell_maps.specs.Cells.{Holds}
use Rattle.cell_maps.specs.declared.Map.{Map}

-- a bound for the glyphs of the coverage at `at` that a map has: its entries if they are listed, and the covered glyphs if it has runs, whose pairs are not counted
unfoldable pub most_notes : ℕ → List ℕ → List ℕ → ℕ → ℕ
most_notes form glyphs s at = cond (eqb form 6) (length (coverage s at)) (length glyphs / 4)

-- r is this bound, and at most 65,536
pub record Most (form : ℕ) (glyphs s : List ℕ) (at r : ℕ) : Type 0 where
  pub number : r ≡ most_notes form glyphs s at
  pub small : r ≤ 65536

-- what `meet` asks: the coverage is sound, m holds the good glyph map, and behind its cells there is one cell more than glyphs that can be noted
pub record MeetsGlyphs (form : ℕ) (s : List ℕ) (at : ℕ) (glyphs : List ℕ) (m : Map) (t : List ℕ) (to : ℕ) : Type 0 where
  pub sound : coverage_sound s at ≡ true
  pub map : GlyphMap form glyphs
  pub holds : Holds t m (glyph_entries form glyphs)
  pub behind : m.at + m.mask < to
  pub room : to + most_notes form glyphs s at < length t

-- what `meets` asks: the coverage is sound, and m holds the good glyph map
pub record SeeksGlyphs (form : ℕ) (s : List ℕ) (at : ℕ) (glyphs : List ℕ) (m : Map) (t : List ℕ) : Type 0 where
  pub sound : coverage_sound s at ≡ true
  pub map : GlyphMap form glyphs
  pub holds : Holds t m (glyph_entries form glyphs)
