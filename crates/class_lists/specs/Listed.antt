-- The classes of the glyphs of a map, in cells, and what the walk over map and class table asks and answers.
use Rattle.std.specs.Prelude.{ℕ, zero, suc, ◌+◌, ◌≤◌, ◌<◌, ◌≡◌, Bool, false, cond, ◌||◌, List, [], ◌∷◌, ◌++◌, map, length, eqb, Option, None, Some}
use Rattle.meaning.specs.Words.{map_some}
use Rattle.meaning.specs.Parts.{class_of}
use Rattle.meaning.specs.Maps.{glyph_entries}
use Rattle.laws.specs.Stands.{All}
use Rattle.cell_maps.specs.Cells.{Kept}
use Rattle.area.specs.Part.{notes}
use Rattle.glyph_runs.specs.Runs.{GlyphMap, Reached}
use Rattle.class_lists.specs.From.{from_old}
use Rattle.class_stretches.specs.declared.Stretch.{Stretch}
use Rattle.class_lists.specs.declared.Place.{Place}
use Rattle.class_lists.specs.declared.ClassList.{ClassList}

-- the new number of a glyph with its class, if that is not 0
abbrev pub classed_as : List (ℕ × ℕ) → ℕ × ℕ → Option (ℕ × ℕ)
classed_as cs e = cond (eqb (class_of cs e.0) 0) None (Some (e.1, class_of cs e.0))

-- the glyphs of a map so
unfoldable pub classed : List (ℕ × ℕ) → List (ℕ × ℕ) → List (ℕ × ℕ)
classed cs g = map_some (classed_as cs) g

-- some glyph of a map holds class 0
unfoldable pub holds_zero : List (ℕ × ℕ) → List (ℕ × ℕ) → Bool
holds_zero cs [] = false
holds_zero cs (e ∷ g) = eqb (class_of cs e.0) 0 || holds_zero cs g

-- The cells from `list` on hold the classes of the glyphs, if there is room; r has how many, a class that none is above, and whether some glyph holds class 0. The cells before are as before.
pub record Listed (cs g : List (ℕ × ℕ)) (t₀ t : List ℕ) (list : ℕ) (r : ClassList) : Type 0 where
  pub kept : Kept list t₀ t
  pub long : r.len ≡ length (classed cs g)
  pub few : r.len ≤ 65536
  pub most : All (λ e. e.1 ≤ r.high) (classed cs g)
  pub small : r.high < 65536
  pub zero : r.zero ≡ holds_zero cs g
  pub cells : list + r.len ≤ length t₀ → notes t list r.len ≡ classed cs g

-- n new numbers in step, each with the class c
unfoldable pub rising : ℕ → ℕ → ℕ → List (ℕ × ℕ)
rising new c zero = []
rising new c (suc n) = (new, c) ∷ rising (new + 1) c n

-- They stand from `cell` on, if there is room, and r is the cell after them; the cells before are as before.
pub record PutRun (t₀ t : List ℕ) (cell new n c r : ℕ) : Type 0 where
  pub past : r ≡ cell + n
  pub kept : Kept cell t₀ t
  pub cells : r ≤ length t₀ → notes t cell n ≡ rising new c n

-- What is asked to list the glyphs of a stretch: it begins with the glyph x, and the run is the first that ends there or later.
pub record ToFill (form : ℕ) (m : List ℕ) (run x : ℕ) (found : Stretch) (cell : ℕ) : Type 0 where
  pub good : GlyphMap form m
  pub reached : Reached form m x run
  pub holds : x ≤ found.last
  pub end : found.last < 65536
  pub small : found.class < 65536
  pub near : cell ≤ 0x1_0000_0001_0000

-- The entries from x up to the stretch's last, which are `mid`, stand from `cell` on, each with the stretch's class, if there is room; r is the first run that is not done, and the cell after them. The cells before are as before.
pub record Filled (form : ℕ) (m : List ℕ) (x : ℕ) (found : Stretch) (t₀ t : List ℕ) (cell : ℕ) (r : Place) : Type 0 where
  pub mid : List (ℕ × ℕ)
  pub split : from_old x (glyph_entries form m) ≡ mid ++ from_old (found.last + 1) (glyph_entries form m)
  pub within : All (λ e. (x ≤ e.0) × (e.0 ≤ found.last)) mid
  pub past : r.cell ≡ cell + length mid
  pub cells : r.cell ≤ length t₀ → notes t cell (length mid) ≡ map (λ e. (e.1, found.class)) mid
  pub kept : Kept cell t₀ t
  pub reached : Reached form m (found.last + 1) r.run

-- The same for any class: class 0 is not listed.
pub record Passes (form : ℕ) (m : List ℕ) (x : ℕ) (found : Stretch) (t₀ t : List ℕ) (cell : ℕ) (r : Place) : Type 0 where
  pub reached : Reached form m (found.last + 1) r.run
  pub skipped : found.class ≡ 0 → (r.cell ≡ cell) × (t ≡ t₀)
  pub listed : (found.class ≡ 0 → ⊥) → Filled form m x found t₀ t cell r
