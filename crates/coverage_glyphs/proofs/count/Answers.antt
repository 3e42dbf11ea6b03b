use native.Mathlib.Omega.{arith}
use Rattle.coverage_glyphs.proofs.Reading.{header_fits, ranges_sound, count_list, count_ranges}
use Rattle.coverage_glyphs.proofs.count.Goals as goal

pub overflow_add-at : goal.overflow_add-at
overflow_add-at c = omega (arith, header_fits c.args.src.now c.args.at c.requires)

pub returns-then-word_at-eq1 : goal.returns-then-word_at-eq1
returns-then-word_at-eq1 c = count_list _ _ c.word_at-n.ensures (omega arith)

pub overflow_add-at-2 : goal.overflow_add-at-2
overflow_add-at-2 c =
    omega (arith, header_fits c.args.src.now c.args.at c.requires)

pub ranges_count-requires : goal.ranges_count-requires
ranges_count-requires c =
    rw c.word_at-n.ensures.0 (ranges_sound c.args.src.now c.args.at c.requires (omega arith))

pub returns : goal.returns
returns c = count_ranges _ _ c.word_at-n.ensures.0 (omega arith) c.ranges_count.ensures
