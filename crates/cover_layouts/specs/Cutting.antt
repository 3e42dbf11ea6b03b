-- What is left of a context by coverages, as the definitions say it, and what is handed over.
use Rattle.std.specs.Prelude.{ℕ, ◌+◌, ◌≤◌, ◌<◌, ◌≡◌, Bool, true, List, length, eqb, Option, None, Some, Result}
use Rattle.meaning.specs.Words.{flat, keys, ascends}
use Rattle.meaning.specs.Maps.{map_entries, glyph_entries}
use Rattle.meaning.specs.Tables.{cover_context}
use Rattle.meaning.specs.Fault.{covers_fault}
use Rattle.meaning.specs.Cut.{cut}
use Rattle.meaning.specs.Subset.{Outcome, refused, limit, written_in}
use Rattle.laws.specs.CutGood.{Values}
use Rattle.laws.specs.SoundGood.{Bytes}
use Rattle.room.specs.Laid.{enough_area, laid_as}
use Rattle.glyph_runs.specs.Runs.{GlyphMap}
use Rattle.cell_maps.specs.Cells.{Inside, Holds}
use Rattle.cell_maps.specs.declared.Map.{Map}
use Rattle.tried.specs.Tries.{Tries}
use Rattle.tried.specs.declared.NotCut.{NotCut}
use Rattle.cover_parts.specs.Rows.{Ready}
use Rattle.cover_parts.specs.declared.Held.{Held}
use Rattle.cover_contexts.specs.Context.{Settles}

-- what comes of the words of what is left, which fit or not
abbrev pub words_into : Bool → List ℕ → Option (List ℕ) → Outcome
words_into fit out None = refused out 8
words_into fit out (Some ws) = laid_as fit out (flat ws)

-- whatever is left, if it stands in the area up to `end` then it is handed over; the area was too short only if it has not enough bytes
pub record HandsOver (end : ℕ) (area : List ℕ) (r : Result ℕ NotCut) (out after : List ℕ) : Type 0 where
  pub handed : {left : Option (List ℕ)} {fit : Bool} {before : List ℕ} → Settles left fit before area end → length area ≡ length before → Tries (⊥) (length area < enough_area) r out after (words_into fit out left)

-- what a cut asks where both maps lie in cells: the source is bytes without a fault and not over the limit
pub record Cuts (chained : Bool) (s glyphs : List ℕ) (h : Held) (l : Map) (t area : List ℕ) : Type 0 where
  pub sound : covers_fault chained s ≡ None
  pub bytes : Bytes s
  pub source : length s ≤ limit
  pub ready : Ready glyphs h t
  pub lookups : Inside t l
  pub near : h.map.at + h.map.mask + 1 ≤ 131072
  pub short : length area ≤ 0x1_0000_0000
  pub cells : length t ≤ 0x1_0000_0000

-- whatever lookup map of words the cells of l hold, what is left of the context is handed over; the cells were too few only if there are no more than 65,536 behind those of h
pub record CutsInto (packing : ℕ) (chained : Bool) (s glyphs : List ℕ) (h : Held) (l : Map) (t area : List ℕ) (r : Result ℕ NotCut) (out after : List ℕ) : Type 0 where
  pub cuts : {es : List (ℕ × ℕ)} → Holds t l es → Values es
      → Tries (length t ≤ h.map.at + h.map.mask + 1 + 65536) (length area < enough_area) r out after (written_in packing out (cut (glyph_entries h.form glyphs) es (cover_context chained s)))

-- the mark of the packed layout
abbrev pub is_packed : ℕ → Bool
is_packed packing = eqb packing 1

-- cells that are enough for any source: two maps, and a note for each glyph and one more
abbrev pub enough_cells : ℕ
enough_cells = 196609

-- what a cut asks: the source has no fault and is not over the limit, the glyph map is good, and the old numbers of the lookup map ascend
pub record Sound (chained : Bool) (form : ℕ) (s glyphs lookups : List ℕ) : Type 0 where
  pub sound : covers_fault chained s ≡ None
  pub source : length s ≤ limit
  pub map : GlyphMap form glyphs
  pub lookups_ascend : ascends (keys (map_entries lookups)) ≡ true
