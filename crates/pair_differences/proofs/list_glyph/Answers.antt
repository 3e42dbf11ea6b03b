use Rattle.pair_differences.proofs.Glyphs.{slot_few, slot_up, glyph_right, glyph_left, glyph_both}
use native.Mathlib.Omega.{arith}
use Rattle.pair_differences.proofs.list_glyph.Goals as goal

pub returns-in_default : goal.returns-in_default
returns-in_default c =
    glyph_right c.requires.0 c.requires.1 c.args.g c.in_default.ensures c.list_right.ensures

pub returns-in_default-cover_index : goal.returns-in_default-cover_index
returns-in_default-cover_index c =
    glyph_left c.requires.0 c.requires.1 c.args.g c.in-Some.ensures c.in_default-cover_index.ensures c.put_listed.ensures

pub overflow_mul-i : goal.overflow_mul-i
overflow_mul-i c =
    omega (arith, slot_few c.requires.0 c.args.g c.in-Some.ensures)

pub overflow_add-i : goal.overflow_add-i
overflow_add-i c =
    omega (arith, slot_few c.requires.0 c.args.g c.in-Some.ensures)

pub overflow_mul-j : goal.overflow_mul-j
overflow_mul-j c =
    omega (arith, slot_few c.requires.1 c.args.g c.in-Some-cover_index.ensures)

pub overflow_add-j : goal.overflow_add-j
overflow_add-j c =
    omega (arith, slot_few c.requires.1 c.args.g c.in-Some-cover_index.ensures)

pub list_sets-requires : goal.list_sets-requires
list_sets-requires c =
    (c.word_at-l.ensures.1, c.word_at-r.ensures.1, omega arith, slot_up c.requires.0 c.args.g c.in-Some.ensures c.word_at-l.ensures.0, slot_up c.requires.1 c.args.g c.in-Some-cover_index.ensures c.word_at-r.ensures.0)

pub returns : goal.returns
returns c =
    glyph_both c.requires.0 c.requires.1 c.args.g c.in-Some.ensures c.in-Some-cover_index.ensures c.word_at-l.ensures.0 c.word_at-r.ensures.0 c.list_sets.ensures
