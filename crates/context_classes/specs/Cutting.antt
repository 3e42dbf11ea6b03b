-- What a cut of a context by class asks and answers.
use Rattle.std.specs.Prelude.{ℕ, ◌+◌, ◌*◌, ◌/◌, ◌≤◌, ◌<◌, ◌≡◌, Bool, true, List, length, None}
use Rattle.meaning.specs.Words.{word, keys, ascends}
use Rattle.meaning.specs.Maps.{map_entries, good_form, glyph_entries, good_glyph_map}
use Rattle.meaning.specs.Parts.{coverage, coverage_sound}
use Rattle.meaning.specs.Tables.{class_context}
use Rattle.meaning.specs.Fault.{context_fault}
use Rattle.meaning.specs.Cut.{new_coverage}
use Rattle.meaning.specs.Subset.{limit}
use Rattle.laws.specs.ReadsBack.{Good}
use Rattle.laws.specs.CutGood.{Values}
use Rattle.laws.specs.SoundGood.{Bytes}
use Rattle.cell_maps.specs.declared.Map.{Map}
use Rattle.area.specs.Part.{news}
use Rattle.glyph_runs.specs.Runs.{GlyphMap}
use Rattle.ranked_maps.specs.Present.{most_cells}
use Rattle.remade_classes.specs.Made.{OldIn}
use Rattle.remade_classes.specs.declared.Noted.{Noted}
use Rattle.class_places.specs.Places.{back_at, input_at, ahead_at}
use Rattle.context_classes.specs.Meaning.{SoundContext}
use Rattle.class_sides.specs.Sides.{InputIn}
use Rattle.context_classes.specs.declared.Begun.{Begun}
use Rattle.context_classes.specs.declared.Classed.{Classed}
use Rattle.class_finish.specs.declared.Prepared.{Prepared}

-- cells that are enough for any source: 65,536 for the maps and the lists of classes in turn, and for the notes, three class maps, and 2,048 for the marks
abbrev pub enough_cells : ℕ
enough_cells = 2 * 65536 + 3 * most_cells + 2048

-- what a cut asks: the source is a context of format 2 without a fault and is not over the limit, the glyph map is good, and the old numbers of the lookup map ascend
pub record Sound (chained : Bool) (s : List ℕ) (form : ℕ) (glyphs lookups : List ℕ) : Type 0 where
  pub sound : context_fault chained s ≡ None
  pub format : word s 0 ≡ 2
  pub source : length s ≤ limit
  pub form_good : good_form form ≡ true
  pub glyphs_good : good_glyph_map form glyphs ≡ true
  pub lookups_ascend : ascends (keys (map_entries lookups)) ≡ true

-- all that a cut needs, from its parts
abbrev pub prepared_of : Begun → List ℕ → Classed → Map → Prepared
prepared_of b s c l = record {
  maps = record { back = c.back; input = c.input.map; ahead = c.ahead; lookups = l };
  marks = c.input.marks;
  classes = c.input.classes;
  tail = record {
    chained = b.chained;
    form = b.marks.form;
    cover = b.cover;
    back = record { at = back_at b.chained s; map = c.back };
    input = record { at = input_at b.chained s; map = c.input.map };
    ahead = record { at = ahead_at b.chained s; map = c.ahead };
  };
  packing = b.marks.layout;
}

-- r lies behind the cells of a map of this mask, not past 65,536 and a quarter of all cells, and is 65,536 where `all` cells are enough for any source
pub record Behind (mask all r : ℕ) : Type 0 where
  pub behind : mask < r
  pub near : r ≤ 65536 + all / 4
  pub enough : enough_cells ≤ all → r ≡ 65536

-- the coverage is there and sound, and the glyph map is good
pub record Covers (s : List ℕ) (form : ℕ) (glyphs : List ℕ) : Type 0 where
  pub sound : coverage_sound s (word s 2) ≡ true
  pub map : GlyphMap form glyphs

-- the retained glyphs of the coverage are noted in r's cells, behind 65,536 others where the cells are enough for any source
pub record Covered (s : List ℕ) (g : List (ℕ × ℕ)) (t : List ℕ) (r : Noted) : Type 0 where
  pub enough : enough_cells ≤ length t → r.at ≡ 65536
  pub inside : r.at + r.len ≤ length t
  pub few : r.len ≤ 65536
  pub noted : news t r.at r.len ≡ new_coverage g (coverage s (word s 2))

-- They are, or the place is 0, since there are too few cells.
pub record NotesCovered (s : List ℕ) (g : List (ℕ × ℕ)) (t₀ t : List ℕ) (r : Noted) : Type 0 where
  pub size : length t ≡ length t₀
  pub room : r.at ≡ 0 → length t₀ < enough_cells
  pub covered : (r.at ≡ 0 → ⊥) → Covered s g t r

-- what is asked to lay the class maps: the source is a sound context, and the retained glyphs of its coverage are noted in cells, behind 65,536 others where the cells are enough for any source
pub record Begins (s glyphs : List ℕ) (b : Begun) (t : List ℕ) : Type 0 where
  pub sound : SoundContext b.chained s
  pub map : GlyphMap b.marks.form glyphs
  pub covers : word s 2 ≡ 0 → ⊥
  pub enough : enough_cells ≤ length t → b.cover.at ≡ 65536
  pub inside : b.cover.at + b.cover.len ≤ length t
  pub few : b.cover.len ≤ 65536
  pub noted : news t b.cover.at b.cover.len ≡ new_coverage (glyph_entries b.marks.form glyphs) (coverage s (word s 2))
  pub cells : length t ≤ 0x1_0000_0000

-- The class maps are in cells, so that each new class table can be made, and the notes are as they were.
pub record ClassesIn (s glyphs : List ℕ) (b : Begun) (t : List ℕ) (c : Classed) : Type 0 where
  pub input : InputIn (glyph_entries b.marks.form glyphs) s (input_at b.chained s) (coverage s (word s 2)) t b.cover c.input
  pub few : c.input.map.mask < most_cells
  pub back : OldIn (glyph_entries b.marks.form glyphs) s t b.cover.at (record { at = back_at b.chained s; map = c.back })
  pub ahead : OldIn (glyph_entries b.marks.form glyphs) s t b.cover.at (record { at = ahead_at b.chained s; map = c.ahead })
  pub noted : news t b.cover.at b.cover.len ≡ new_coverage (glyph_entries b.marks.form glyphs) (coverage s (word s 2))

-- They are, or the mask of the input's is 0, since there are too few cells.
pub record ClassesLaid (s glyphs : List ℕ) (b : Begun) (t₀ t : List ℕ) (c : Classed) : Type 0 where
  pub size : length t ≡ length t₀
  pub room : c.input.map.mask ≡ 0 → length t₀ < enough_cells
  pub laid : (c.input.map.mask ≡ 0 → ⊥) → ClassesIn s glyphs b t c

-- what is asked where the covered glyphs are noted: there is one, and the lookup map is good
pub record Cuts (s glyphs lookups : List ℕ) (b : Begun) (t area : List ℕ) : Type 0 where
  pub begins : Begins s glyphs b t
  pub bytes : Bytes s
  pub good : Good (class_context b.chained s)
  pub covered : 0 < b.cover.len
  pub classed : input_at b.chained s ≡ 0 → ⊥
  pub ascend : ascends (keys (map_entries lookups)) ≡ true
  pub values : Values (map_entries lookups)
  pub short : length area ≤ 0x1_0000_0000
