use mathlib.Core.Path.{refl, sym, ◌∙◌}
use mathlib.Core.List.{[]}
use native.Mathlib.Omega.{arith}
use Rattle.pair_classes.proofs.Cutting.{cells_same, has_header, null_left, few_cells, begins}
use Rattle.laws.specs.SoundGood.{bytes_all}
use Rattle.meaning.specs.Maps.{glyph_entries}
use Rattle.meaning.specs.Tables.{pair_table}
use Rattle.meaning.specs.Cut.{cut}
use Rattle.meaning.specs.Subset.{written_in}
use Rattle.pair_classes.proofs.cut_in.Goals as goal

pub has_null-requires : goal.has_null-requires
has_null-requires c =
    has_header c.requires.0

pub returns-then-has_null : goal.returns-then-has_null
returns-then-has_null c =
    null_left c.args.src.now c.requires.0.format (glyph_entries c.args.marks.form c.args.glyphs.now) c.args.marks.layout c.args.out.now (sym c.has_null.ensures ∙ c.if-has_null.true)

pub lay_glyphs-m-requires : goal.lay_glyphs-m-requires
lay_glyphs-m-requires c = (omega arith, c.requires.0.glyphs_good)

pub returns-then-m-eq0 : goal.returns-then-m-eq0
returns-then-m-eq0 c =
    (few_cells c.requires.0 c.lay_glyphs-m.ensures c.if-m-eq0.true, refl)

pub cut_map-requires : goal.cut_map-requires
cut_map-requires c =
    (begins c.requires.0 c.lay_glyphs-m.ensures c.if-m-eq0.false (sym c.has_null.ensures ∙ c.if-has_null.false) (bytes_all c.args.src.now (λ i. omega (arith, c.type_inv.src i))) (bytes_all c.args.glyphs.now (λ i. omega (arith, c.type_inv.glyphs i))), c.requires.1)

pub returns : goal.returns
returns c =
    cells_same c.cut_map.result c.args.out.now c.cut_map.new.out (written_in c.args.marks.layout c.args.out.now (cut (glyph_entries c.args.marks.form c.args.glyphs.now) [] (pair_table c.args.src.now))) c.lay_glyphs-m.ensures.kept c.args.area.now c.cut_map.ensures
