use mathlib.Core.Path.{refl}
use mathlib.Core.List.{[]}
use native.Mathlib.Omega.{arith}
use Rattle.pair_classes.proofs.Cutting.{scratch_same, names, short_covered, front_inside, first_asks, first_cells, first_in}
use Rattle.laws.specs.Written.{wrote_length}
use Rattle.meaning.specs.Maps.{glyph_entries}
use Rattle.meaning.specs.Tables.{pair_table}
use Rattle.meaning.specs.Cut.{cut}
use Rattle.meaning.specs.Subset.{written_in}
use Rattle.pair_classes.proofs.cut_noted.Goals as goal

pub returns-then-area-n : goal.returns-then-area-n
returns-then-area-n c =
    (short_covered c.requires.0 c.args.area.now refl c.if-area-n.true, refl)

pub put_covered-requires : goal.put_covered-requires
put_covered-requires c =
    names c.requires.0 c.word_inside.ensures.0 refl c.if-area-n.false

pub slice_bounds-side_classes-end-2 : goal.slice_bounds-side_classes-end-2
slice_bounds-side_classes-end-2 c =
    front_inside c.requires.0 c.word_inside.ensures.0 refl c.if-area-n.false c.put_covered.ensures

pub side_classes-first-requires : goal.side_classes-first-requires
side_classes-first-requires c =
    first_asks c.requires.0 c.word_inside.ensures.0 refl c.if-area-n.false c.put_covered.ensures c.word_inside-2.ensures.0 refl

pub returns-then-first-eq0 : goal.returns-then-first-eq0
returns-then-first-eq0 c =
    (first_cells c.requires.0 c.word_inside.ensures.0 refl c.if-area-n.false c.put_covered.ensures c.word_inside-2.ensures.0 refl c.side_classes-first.ensures c.if-first-eq0.true, refl)

pub cut_first-requires : goal.cut_first-requires
cut_first-requires c =
    (first_in c.requires.0 c.word_inside.ensures.0 refl c.if-area-n.false c.put_covered.ensures c.word_inside-2.ensures.0 refl c.side_classes-first.ensures c.if-first-eq0.false, omega (arith, wrote_length c.put_covered.ensures, c.requires.1))

pub returns : goal.returns
returns c =
    scratch_same c.cut_first.result c.args.out.now c.cut_first.new.out (written_in c.args.marks.layout c.args.out.now (cut (glyph_entries c.args.marks.form c.args.glyphs.now) [] (pair_table c.args.src.now))) c.side_classes-first.ensures.kept c.put_covered.ensures c.cut_first.ensures
