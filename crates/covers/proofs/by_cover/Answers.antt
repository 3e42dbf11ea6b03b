use Rattle.tried.specs.Front.{least_is, front_length, front_tries}
use Rattle.meaning.specs.Maps.{map_entries, glyph_entries}
use Rattle.meaning.specs.Tables.{cover_context}
use Rattle.meaning.specs.Cut.{cut}
use Rattle.meaning.specs.Subset.{written_in}
use native.Mathlib.Omega.{arith}
use Rattle.covers.proofs.by_cover.Goals as goal

pub slice_bounds-cut_in-end-2 : goal.slice_bounds-cut_in-end-2
slice_bounds-cut_in-end-2 c = front_length c.args.t.now (least_is c.min-cells.ensures)

pub slice_bounds-cut_in-end-4 : goal.slice_bounds-cut_in-end-4
slice_bounds-cut_in-end-4 c = front_length c.args.area.now (least_is c.min-bytes.ensures)

pub cut_in-requires : goal.cut_in-requires
cut_in-requires c = (
  c.requires,
  omega (arith, front_length c.args.t.now (least_is c.min-cells.ensures), c.min-cells.ensures),
  omega (arith, front_length c.args.area.now (least_is c.min-bytes.ensures), c.min-bytes.ensures),
)

pub returns : goal.returns
returns c =
    front_tries c.args.t.now c.args.area.now c.cut_in.result c.args.out.now c.cut_in.new.out (written_in c.args.marks.layout c.args.out.now (cut (glyph_entries c.args.marks.form c.args.glyphs.now) (map_entries c.args.lookups.now) (cover_context c.args.chained c.args.src.now)))
    (least_is c.min-cells.ensures) (least_is c.min-bytes.ensures) c.cut_in.ensures
