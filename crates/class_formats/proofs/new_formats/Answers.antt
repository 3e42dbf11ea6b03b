use native.Mathlib.Omega.{arith}
use Rattle.numbers.specs.Entries.{entries_in}
use Rattle.class_formats.proofs.Using.{has_sized, formats_new}
use Rattle.class_formats.proofs.new_formats.Goals as goal

pub word_inside-f1-requires : goal.word_inside-f1-requires
word_inside-f1-requires c = omega (arith, c.requires.has.header)

pub word_inside-f2-requires : goal.word_inside-f2-requires
word_inside-f2-requires c = omega (arith, c.requires.has.header)

pub new_format-n1-requires : goal.new_format-n1-requires
new_format-n1-requires c =
    (has_sized c.args.src.now c.word_inside-f1.ensures.0 c.word_inside-f2.ensures.0 c.field_count-second.ensures.0 c.field_count.ensures.0 c.requires.has, omega arith, omega (arith, c.field_count-second.ensures.0), c.requires.first_map, c.requires.second_map_lem)

pub new_format-requires : goal.new_format-requires
new_format-requires c =
    (has_sized c.args.src.now c.word_inside-f1.ensures.0 c.word_inside-f2.ensures.0 c.field_count-second.ensures.0 c.field_count.ensures.0 c.requires.has, omega (arith, c.field_count-second.ensures.1), omega (arith, c.field_count.ensures.0), c.requires.first_map, c.requires.second_map_lem)

pub returns : goal.returns
returns c =
    formats_new c.args.src.now c.word_inside-f1.ensures.0 c.word_inside-f2.ensures.0 c.field_count-second.ensures.0 c.field_count.ensures.0 (entries_in c.args.t.now c.args.firsts) (entries_in c.args.t.now c.args.seconds) c.new_format-n1.ensures c.new_format.ensures c.stand_in-n2.ensures
