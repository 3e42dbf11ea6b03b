-- What a cut asks and answers, by the kind and the format of its source.
use Rattle.std.specs.Prelude.{ℕ, ◌≤◌, ◌<◌, ◌≡◌, Bool, true, cond, ◌&&◌, not, List, length, eqb, None, Result}
use Rattle.meaning.specs.Words.{word}
use Rattle.meaning.specs.Maps.{good_lookups}
use Rattle.glyph_runs.specs.Runs.{GlyphMap}
use Rattle.meaning.specs.Fault.{context_fault, fault}
use Rattle.meaning.specs.Subset.{Outcome, limit}
use Rattle.tried.specs.Tries.{Tries}
use Rattle.tried.specs.declared.NotCut.{NotCut}
use Rattle.room.specs.Laid.{enough_area}
use Rattle.cover_layouts.specs.Cutting as covers
use Rattle.pair_classes.specs.Cutting as classPairs

-- what a cut asks: the source has no fault and is not over the limit, and both maps are good
pub record Sound (kind form : ℕ) (s glyphs lookups : List ℕ) : Type 0 where
  pub sound : fault kind s ≡ None
  pub source : length s ≤ limit
  pub map : GlyphMap form glyphs
  pub lookups_good : good_lookups lookups ≡ true

-- the same of a context
pub record SoundContext (chained : Bool) (form : ℕ) (s glyphs lookups : List ℕ) : Type 0 where
  pub sound : context_fault chained s ≡ None
  pub source : length s ≤ limit
  pub map : GlyphMap form glyphs
  pub lookups_good : good_lookups lookups ≡ true

-- and of a pair table
pub record SoundPairs (form : ℕ) (s glyphs : List ℕ) : Type 0 where
  pub sound : fault 4 s ≡ None
  pub source : length s ≤ limit
  pub map : GlyphMap form glyphs

-- the cells that are enough for a pair table by classes, and those that are for any other source
abbrev pub class_pair_cells : ℕ
class_pair_cells = classPairs.enough_cells

abbrev pub other_cells : ℕ
other_cells = covers.enough_cells

-- the bytes of area that are enough for a pair table by classes, as many as the limit; `enough_area` are for any other source
abbrev pub class_pair_bytes : ℕ
class_pair_bytes = 262144

-- a source of this kind is a pair table by classes
unfoldable pub pairs_by_class : ℕ → List ℕ → Bool
pairs_by_class kind s = eqb kind 4 && not (eqb (word s 0) 1)

-- the cells and the bytes of area that are enough for a source, by its kind and its format
unfoldable pub cells_for : ℕ → List ℕ → ℕ
cells_for kind s = cond (pairs_by_class kind s) class_pair_cells other_cells

unfoldable pub bytes_for : ℕ → List ℕ → ℕ
bytes_for kind s = cond (pairs_by_class kind s) class_pair_bytes enough_area

-- the answer's outcome is `made`; or the scratch was too short, and the buffer is untouched
pub record UnlessShort (r : Result ℕ NotCut) (before after : List ℕ) (made : Outcome) : Type 0 where
  pub tried : Tries (Unit {0}) (Unit {0}) r before after made

-- the answer's outcome is `made`, since the scratch is never too short
pub record NeverShort (r : Result ℕ NotCut) (before after : List ℕ) (made : Outcome) : Type 0 where
  pub tried : Tries (⊥) (⊥) r before after made
