use mathlib.Core.List.{[]}
use Rattle.meaning.specs.Tables.{single}
use Rattle.meaning.specs.Cut.{cut}
use mathlib.Core.Path.{refl}
use Prim.Native.Nat.{◌<◌}
use native.Mathlib.Omega.{arith}
use lib.ListN.{length}
use Rattle.meaning.specs.Maps.{glyph_entries}
use Rattle.meaning.specs.Subset.{limit, written}
use Rattle.single_checks.proofs.Checking.{header_inside}
use Rattle.single_subst.proofs.Cutting.{null_cut, few_cells, map_laid, cells_same}
use Rattle.single_subst.proofs.singles.Goals as goal

pub word_inside-requires : goal.word_inside-requires
word_inside-requires c =
    omega (arith, header_inside c.args.src.now c.requires.sound)

pub returns-then-word_inside-eq0 : goal.returns-then-word_inside-eq0
returns-then-word_inside-eq0 c =
    null_cut c.args.src.now (glyph_entries c.args.form c.args.glyphs.now) c.args.out.now c.word_inside.ensures.0 c.if-word_inside-eq0.true

pub returns-then-m-eq0 : goal.returns-then-m-eq0
returns-then-m-eq0 c =
    (few_cells c.requires c.lay_glyphs-m.ensures c.if-m-eq0.true, refl)

pub cut_singles-requires : goal.cut_singles-requires
cut_singles-requires c =
    (c.requires, map_laid c.requires c.lay_glyphs-m.ensures c.if-m-eq0.false c.word_inside.ensures.0 c.if-word_inside-eq0.false)

pub returns : goal.returns
returns c =
    cells_same c.requires c.lay_glyphs-m.ensures (length c.args.area.now < limit) c.cut_singles.result c.args.out.now c.cut_singles.new.out (written c.args.out.now (cut (glyph_entries c.args.form c.args.glyphs.now) [] (single c.args.src.now))) c.cut_singles.ensures
