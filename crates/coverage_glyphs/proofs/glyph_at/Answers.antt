use Prim.Native.Nat.{◌+◌, ◌*◌, ◌<◌}
use native.Mathlib.Omega.{arith}
use lib.ListN.{length}
use Rattle.coverage_glyphs.proofs.Reading.{header_fits, ranges_sound, glyph_fits, give_list, range_index, give_ranges}
use Rattle.coverage_glyphs.proofs.glyph_at.Goals as goal
use Rattle.coverage_glyphs.proofs.glyph_at.Goals.{Then-word_at-eq1}

-- in format 1 the glyph's word lies inside
place : (c : Then-word_at-eq1) → c.args.at + 4 + 2 * c.args.i < length c.args.src.now
place c = glyph_fits _ _ c.requires (omega arith)

pub overflow_add-at : goal.overflow_add-at
overflow_add-at c = omega (arith, header_fits c.args.src.now c.args.at c.requires.0)

pub overflow_add-at-then-word_at-eq1 : goal.overflow_add-at-then-word_at-eq1
overflow_add-at-then-word_at-eq1 c = omega (arith, place (goal.at.overflow_add-at-then-word_at-eq1 c).Then-word_at-eq1)

pub overflow_mul-i : goal.overflow_mul-i
overflow_mul-i c = omega (arith, place (goal.at.overflow_mul-i c).Then-word_at-eq1)

pub overflow_add-at-then-word_at-eq1-2 : goal.overflow_add-at-then-word_at-eq1-2
overflow_add-at-then-word_at-eq1-2 c = omega (arith, place (goal.at.overflow_add-at-then-word_at-eq1-2 c).Then-word_at-eq1)

pub returns-then-word_at-eq1 : goal.returns-then-word_at-eq1
returns-then-word_at-eq1 c = give_list _ _ c.requires.1 (omega arith) c.word_at-then-word_at-eq1.ensures

pub overflow_add-at-2 : goal.overflow_add-at-2
overflow_add-at-2 c =
    omega (arith, header_fits c.args.src.now c.args.at c.requires.0)

pub range_glyph-requires : goal.range_glyph-requires
range_glyph-requires c = (
  rw c.word_at-n.ensures.0 (ranges_sound c.args.src.now c.args.at c.requires.0 (omega arith)),
  range_index c.args.src.now c.args.at c.word_at-n.ensures.0 (omega arith) c.requires.1,
)

pub returns : goal.returns
returns c = give_ranges _ _ c.word_at-n.ensures.0 (omega arith) c.range_glyph.ensures
