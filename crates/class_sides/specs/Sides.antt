-- Class tables in cells: the classes of one after the other are listed in the first cells, and the class map of each is laid behind the notes of the covered glyphs; for the input, also the marks of the classes that these hold.
use Rattle.std.specs.Prelude.{ℕ, ◌+◌, ◌/◌, ◌≤◌, ◌<◌, ◌≡◌, List, length}
use Rattle.meaning.specs.Words.{keys, member}
use Rattle.meaning.specs.Cut.{held_by, class_map, new_coverage, retained}
use Rattle.laws.specs.Runs.{Up}
use Rattle.bits.specs.Bits.{marked}
use Rattle.cell_maps.specs.declared.Map.{Map}
use Rattle.area.specs.Part.{news}
use Rattle.glyph_runs.specs.Runs.{GlyphMap}
use Rattle.class_stretches.specs.Tables.{classes_at, NullOrSound}
use Rattle.ranked_maps.specs.Present.{most_cells, top_of, present}
use Rattle.ranked_maps.specs.Mapped.{Lists, Classes}
use Rattle.class_ranks.specs.Same.{Same}
use Rattle.remade_classes.specs.Made.{OldIn}
use Rattle.remade_classes.specs.declared.Noted.{Noted}
use Rattle.class_sides.specs.declared.Side.{Side}
use Rattle.class_sides.specs.declared.Input.{Input}

-- what is asked to list the classes of a class table in the first `front` cells, and to lay its class map into those from `to` on
pub record Asks (s : List ℕ) (at form : ℕ) (glyphs t : List ℕ) (front to : ℕ) : Type 0 where
  pub sound : NullOrSound s at
  pub map : GlyphMap form glyphs
  pub before : front ≤ to
  pub inside : to ≤ length t
  pub near : length t ≤ 0x1_0000_0000

-- the classes of the class table at `at` are listed, and its class map stands from `to` on, so that the new one can be made
pub record SideIn (g : List (ℕ × ℕ)) (s : List ℕ) (at : ℕ) (t : List ℕ) (front to : ℕ) (r : Side) : Type 0 where
  pub table : OldIn g s t front (record { at = at; map = r.classes.map })
  pub place : r.classes.map.at ≡ to
  pub fits : r.len ≤ front
  pub lists : Lists (classes_at s at) g t 0 r.len
  pub classes : Classes (class_map g (classes_at s at)) t r.classes

-- They are, or the mask is 0, since there are too few cells; the cells from `front` up to `to` are as before.
pub record Sided (s : List ℕ) (at : ℕ) (g : List (ℕ × ℕ)) (t₀ t : List ℕ) (front to : ℕ) (r : Side) : Type 0 where
  pub same : Same front to t₀ t
  pub few : r.classes.map.mask < most_cells
  pub room : 65536 ≤ front → to + most_cells ≤ length t₀ → r.classes.map.mask ≡ 0 → ⊥
  pub side : (r.classes.map.mask ≡ 0 → ⊥) → SideIn g s at t front to r

-- how many cells marks take, one bit for each class that can have an entry
abbrev pub mark_cells : Map → ℕ
mark_cells m = top_of m / 32 + 1

-- what is asked for the input: the notes lie inside
pub record InputAsks (s : List ℕ) (at form : ℕ) (glyphs : List ℕ) (noted : Noted) (t : List ℕ) : Type 0 where
  pub sound : NullOrSound s at
  pub map : GlyphMap form glyphs
  pub inside : noted.at + noted.len ≤ length t
  pub near : length t ≤ 0x1_0000_0000

-- The class map of the input stands behind the notes, and behind it the marks of the classes that the retained glyphs of a coverage hold.
pub record InputIn (g : List (ℕ × ℕ)) (s : List ℕ) (at : ℕ) (cov t : List ℕ) (noted : Noted) (r : Input) : Type 0 where
  pub table : OldIn g s t noted.at (record { at = at; map = r.map })
  pub place : noted.at + noted.len ≡ r.map.at
  pub behind : r.marks ≡ r.map.at + r.map.mask + 1
  pub inside : r.marks + mark_cells r.map ≤ length t
  pub held : present t r.map ≡ held_by (classes_at s at) (keys g)
  pub count : r.classes ≡ length (held_by (classes_at s at) (keys g))
  pub covered : (c : ℕ) → c ≤ top_of r.map → marked t r.marks c ≡ member c (held_by (classes_at s at) (retained g cov))

-- They do, or the mask is 0, since there are too few cells; the notes are as before.
pub record InputLaid (s : List ℕ) (at : ℕ) (g : List (ℕ × ℕ)) (noted : Noted) (t₀ t : List ℕ) (r : Input) : Type 0 where
  pub same : Same noted.at (noted.at + noted.len) t₀ t
  pub few : r.map.mask < most_cells
  pub room : 65536 ≤ noted.at → noted.at + noted.len + most_cells + 2048 ≤ length t₀ → r.map.mask ≡ 0 → ⊥
  pub side : (r.map.mask ≡ 0 → ⊥) → (cov : List ℕ) → Up 0 cov → news t₀ noted.at noted.len ≡ new_coverage g cov → InputIn g s at cov t noted r
