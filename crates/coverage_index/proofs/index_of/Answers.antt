use native.Mathlib.Omega.{arith}
use Prim.Native.Nat.{◌+◌, ◌≤◌}
use lib.ListN.{length}
use Rattle.coverage_index.proofs.Formats.{head_fits, list_sound, by_list, ranges_sound, by_ranges}
use Rattle.coverage_index.proofs.index_of.Goals as goal
use Rattle.coverage_index.proofs.index_of.Goals.{After-shared_slice_known-1}

-- the head of the coverage lies inside
head : (c : After-shared_slice_known-1) → c.args.at + 4 ≤ length c.args.src.now
head c = head_fits c.args.src.now c.args.at c.requires.0

pub overflow_add-at : goal.overflow_add-at
overflow_add-at c = omega (arith, head (goal.at.overflow_add-at c).After-shared_slice_known-1)

pub word_inside-n-requires : goal.word_inside-n-requires
word_inside-n-requires c = omega (arith, head (goal.at.word_inside-n-requires c).After-shared_slice_known-1)

pub word_inside-requires : goal.word_inside-requires
word_inside-requires c = omega (arith, head (goal.at.word_inside-requires c).After-shared_slice_known-1)

pub overflow_add-at-then-word_inside-eq1 : goal.overflow_add-at-then-word_inside-eq1
overflow_add-at-then-word_inside-eq1 c = omega (arith, head (goal.at.overflow_add-at-then-word_inside-eq1 c).After-shared_slice_known-1)

pub list_index-requires : goal.list_index-requires
list_index-requires c =
    list_sound c.args.src.now c.args.at c.requires.0 c.word_inside.ensures.0 c.word_inside-n.ensures.0 c.if-word_inside-eq1.true

pub returns-then-word_inside-eq1 : goal.returns-then-word_inside-eq1
returns-then-word_inside-eq1 c =
    by_list c.args.src.now c.args.at c.requires.0 c.word_inside.ensures.0 c.word_inside-n.ensures.0 c.if-word_inside-eq1.true c.args.glyph c.list_index.ensures

pub overflow_add-at-2 : goal.overflow_add-at-2
overflow_add-at-2 c = omega (arith, head (goal.at.overflow_add-at-2 c).After-shared_slice_known-1)

pub range_index-requires : goal.range_index-requires
range_index-requires c =
    (ranges_sound c.args.src.now c.args.at c.requires.0 c.word_inside.ensures.0 c.word_inside-n.ensures.0 c.if-word_inside-eq1.false, c.requires.1)

pub returns : goal.returns
returns c =
    by_ranges c.args.src.now c.args.at c.requires.0 c.word_inside.ensures.0 c.word_inside-n.ensures.0 c.if-word_inside-eq1.false c.args.glyph c.range_index.ensures
