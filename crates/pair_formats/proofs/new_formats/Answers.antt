use native.Mathlib.Omega.{arith}
use Rattle.area.specs.Part.{notes}
use Rattle.numbers.specs.Entries.{entries_in}
use Rattle.field_uses.proofs.Using.{names_sized, formats_new}
use Rattle.pair_formats.proofs.new_formats.Goals as goal

pub new_format-n1-requires : goal.new_format-n1-requires
new_format-n1-requires c =
    (names_sized c.args.src.now c.word_inside-f1.ensures.0 c.word_inside-f2.ensures.0 c.field_count.ensures.0 c.field_count-2.ensures.0 c.requires.names, omega arith, omega arith, omega (arith, c.field_count.ensures.0), c.requires.inside)

pub new_format-requires : goal.new_format-requires
new_format-requires c =
    (names_sized c.args.src.now c.word_inside-f1.ensures.0 c.word_inside-f2.ensures.0 c.field_count.ensures.0 c.field_count-2.ensures.0 c.requires.names, omega (arith, c.field_count.ensures.1), omega arith, omega (arith, c.field_count-2.ensures.0), c.requires.inside)

pub returns : goal.returns
returns c =
    formats_new c.args.src.now c.word_inside-f1.ensures.0 c.word_inside-f2.ensures.0 c.field_count.ensures.0 c.field_count-2.ensures.0 (entries_in c.args.t.now c.args.glyphs) (notes c.args.t.now c.args.at c.args.n) c.new_format-n1.ensures c.new_format.ensures c.stand_in-n2.ensures
