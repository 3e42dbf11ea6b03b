use Rattle.glyph_differences.proofs.Glyphs.{slot_few, slot_right, slot_left, slot_both}
use native.Mathlib.Omega.{arith}
use Rattle.glyph_differences.proofs.list_glyph.Goals as goal

pub returns-in_default : goal.returns-in_default
returns-in_default c =
    let x = slot_right c.args.num.now c.requires.0 c.requires.1 c.args.at.glyph c.in_default.ensures c.list_right.ensures in
    (x.0, x.1, c.requires.5)

pub returns-in_default-cover_index : goal.returns-in_default-cover_index
returns-in_default-cover_index c =
    let x = slot_left c.args.num.now c.requires.0 c.requires.1 c.args.at.glyph c.in-Some.ensures c.in_default-cover_index.ensures c.put_listed.ensures in
    (x.0, x.1, c.requires.5)

pub overflow_mul-i : goal.overflow_mul-i
overflow_mul-i c =
    omega (arith, slot_few c.requires.0 c.args.at.glyph c.in-Some.ensures)

pub overflow_add-i : goal.overflow_add-i
overflow_add-i c =
    omega (arith, slot_few c.requires.0 c.args.at.glyph c.in-Some.ensures)

pub overflow_mul-j : goal.overflow_mul-j
overflow_mul-j c =
    omega (arith, slot_few c.requires.1 c.args.at.glyph c.in-Some-cover_index.ensures)

pub overflow_add-j : goal.overflow_add-j
overflow_add-j c =
    omega (arith, slot_few c.requires.1 c.args.at.glyph c.in-Some-cover_index.ensures)

pub returns : goal.returns
returns c =
    (slot_both c.args.num.now c.requires.0 c.requires.1 c.args.at.glyph c.in-Some.ensures c.in-Some-cover_index.ensures c.word_at.ensures.0 c.word_at-2.ensures.0 c.list_set_pair.ensures.0, c.list_set_pair.ensures.1, c.list_set_pair.ensures.2)
