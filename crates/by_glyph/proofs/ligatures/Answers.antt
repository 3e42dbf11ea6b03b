use mathlib.Core.List.{[]}
use native.Mathlib.Omega.{arith}
use Rattle.meaning.specs.Maps.{glyph_entries}
use Rattle.meaning.specs.Cut.{cut}
use Rattle.meaning.specs.Subset.{written_in}
use Rattle.tried.specs.Front.{least_is, front_length, front_area}
use Rattle.cut_sets.specs.Whole.{ligature_table}
use Rattle.by_glyph.proofs.ligatures.Goals as goal

pub slice_bounds-cut_ligatures-end-2 : goal.slice_bounds-cut_ligatures-end-2
slice_bounds-cut_ligatures-end-2 c = front_length c.args.area.now (least_is c.min-bytes.ensures)

pub cut_ligatures-requires : goal.cut_ligatures-requires
cut_ligatures-requires c =
    (c.requires.0, c.requires.1, c.requires.2, omega (arith, front_length c.args.area.now (least_is c.min-bytes.ensures), c.min-bytes.ensures))

pub returns : goal.returns
returns c =
    front_area c.args.area.now (least_is c.min-bytes.ensures) _ c.cut_ligatures.result c.args.out.now _ (written_in c.args.marks.layout c.args.out.now (cut (glyph_entries c.args.marks.form c.args.glyphs.now) [] (ligature_table c.args.src.now))) c.cut_ligatures.ensures
