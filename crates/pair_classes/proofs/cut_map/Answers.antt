use mathlib.Core.Path.{refl}
use mathlib.Core.List.{[]}
use Rattle.pair_classes.proofs.Cutting.{cells_same, may_bound, few_notes, may_meet, none_met, notings}
use Rattle.meaning.specs.Maps.{glyph_entries}
use Rattle.meaning.specs.Tables.{pair_table}
use Rattle.meaning.specs.Cut.{cut}
use Rattle.meaning.specs.Subset.{written_in}
use Rattle.pair_classes.proofs.cut_map.Goals as goal

pub most-requires : goal.most-requires
most-requires c = may_bound c.requires.0 refl c.word_inside-cover.ensures.0

pub returns-then-t-at : goal.returns-then-t-at
returns-then-t-at c = (few_notes c.requires.0 refl c.word_inside-cover.ensures.0 c.most.ensures c.if-t-at.true, refl)

pub meet-len-requires : goal.meet-len-requires
meet-len-requires c =
    may_meet c.requires.0 refl c.word_inside-cover.ensures.0 c.most.ensures c.if-t-at.false

pub returns-then-len-eq0 : goal.returns-then-len-eq0
returns-then-len-eq0 c =
    none_met c.requires.0 refl c.word_inside-cover.ensures.0 c.meet-len.ensures c.args.marks.layout c.args.out.now c.if-len-eq0.true

pub cut_noted-requires : goal.cut_noted-requires
cut_noted-requires c =
    (notings c.requires.0 refl c.word_inside-cover.ensures.0 c.meet-len.ensures c.if-len-eq0.false, c.requires.1)

pub returns : goal.returns
returns c =
    cells_same c.cut_noted.result c.args.out.now c.cut_noted.new.out (written_in c.args.marks.layout c.args.out.now (cut (glyph_entries c.args.marks.form c.args.glyphs.now) [] (pair_table c.args.src.now))) c.meet-len.ensures.kept c.args.area.now c.cut_noted.ensures
