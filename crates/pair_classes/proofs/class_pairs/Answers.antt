use mathlib.Core.List.{[]}
use Rattle.meaning.specs.Maps.{glyph_entries}
use Rattle.meaning.specs.Tables.{pair_table}
use Rattle.meaning.specs.Cut.{cut}
use Rattle.meaning.specs.Subset.{written_in}
use Rattle.pair_classes.proofs.Cutting.{front_length, front_near, front_tries}
use Rattle.pair_classes.proofs.class_pairs.Goals as goal

pub slice_bounds-cut_in-end-2 : goal.slice_bounds-cut_in-end-2
slice_bounds-cut_in-end-2 c =
    front_length c.args.area.now c.front-n.ensures

pub cut_in-requires : goal.cut_in-requires
cut_in-requires c =
    (c.requires, front_near c.args.area.now c.front-n.ensures)

pub returns : goal.returns
returns c =
    front_tries c.args.area.now c.front-n.ensures c.args.t.now c.cut_in.result c.args.out.now c.cut_in.new.out (written_in c.args.marks.layout c.args.out.now (cut (glyph_entries c.args.marks.form c.args.glyphs.now) [] (pair_table c.args.src.now))) c.cut_in.ensures
