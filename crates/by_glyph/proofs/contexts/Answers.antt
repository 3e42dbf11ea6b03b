use native.Mathlib.Omega.{arith}
use Rattle.meaning.specs.Maps.{map_entries, glyph_entries}
use Rattle.meaning.specs.Cut.{cut}
use Rattle.meaning.specs.Subset.{written_in}
use Rattle.tried.specs.Front.{least_is, front_length, front_area}
use Rattle.cut_sets.specs.Whole.{glyph_context}
use Rattle.by_glyph.proofs.contexts.Goals as goal

pub slice_bounds-cut_contexts-end-2 : goal.slice_bounds-cut_contexts-end-2
slice_bounds-cut_contexts-end-2 c = front_length c.args.area.now (least_is c.min-bytes.ensures)

pub cut_contexts-requires : goal.cut_contexts-requires
cut_contexts-requires c =
    (c.requires.0, c.requires.1, c.requires.2, c.requires.3, omega (arith, front_length c.args.area.now (least_is c.min-bytes.ensures), c.min-bytes.ensures))

pub returns : goal.returns
returns c =
    front_area c.args.area.now (least_is c.min-bytes.ensures) _ c.cut_contexts.result c.args.out.now _ (written_in c.args.marks.layout c.args.out.now (cut (glyph_entries c.args.marks.form c.args.glyphs.now) (map_entries c.args.lookups.now) (glyph_context c.args.chained c.args.src.now))) c.cut_contexts.ensures
