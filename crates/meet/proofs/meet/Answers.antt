use Prim.Native.Nat.{◌+◌, ◌≤◌}
use lib.ListN.{length}
use native.Mathlib.Omega.{arith}
use Rattle.meet.proofs.Formats.{head_inside, entries_ask, list_asks, list_met, ranges_ask, ranges_met}
use Rattle.meet.proofs.meet.Goals as goal
use Rattle.meet.proofs.meet.Goals.{After-slice_known-1}

-- the head of the coverage lies inside
head : (c : After-slice_known-1) → c.args.at + 4 ≤ length c.args.src.now
head c = head_inside c.requires

pub overflow_add-at : goal.overflow_add-at
overflow_add-at c = omega (arith, head (goal.at.overflow_add-at c).After-slice_known-1)

pub word_inside-n-requires : goal.word_inside-n-requires
word_inside-n-requires c = omega (arith, head (goal.at.word_inside-n-requires c).After-slice_known-1)

pub meet_entries-requires : goal.meet_entries-requires
meet_entries-requires c = entries_ask c.requires

pub returns-then-glyphs-n : goal.returns-then-glyphs-n
returns-then-glyphs-n c = c.meet_entries.ensures

pub word_inside-requires : goal.word_inside-requires
word_inside-requires c = omega (arith, head (goal.at.word_inside-requires c).After-slice_known-1)

pub overflow_add-at-then-word_inside-eq1 : goal.overflow_add-at-then-word_inside-eq1
overflow_add-at-then-word_inside-eq1 c = omega (arith, head (goal.at.overflow_add-at-then-word_inside-eq1 c).After-slice_known-1)

pub meet_list-requires : goal.meet_list-requires
meet_list-requires c =
    list_asks c.requires c.word_inside.ensures.0 c.word_inside-n.ensures.0 c.if-word_inside-eq1.true c.word_inside-n.ensures.1

pub returns-then-word_inside-eq1 : goal.returns-then-word_inside-eq1
returns-then-word_inside-eq1 c =
    list_met c.requires c.word_inside.ensures.0 c.word_inside-n.ensures.0 c.if-word_inside-eq1.true c.meet_list.ensures

pub overflow_add-at-2 : goal.overflow_add-at-2
overflow_add-at-2 c = omega (arith, head (goal.at.overflow_add-at-2 c).After-slice_known-1)

pub meet_ranges-requires : goal.meet_ranges-requires
meet_ranges-requires c =
    ranges_ask c.requires c.word_inside.ensures.0 c.word_inside-n.ensures.0 c.if-word_inside-eq1.false

pub returns : goal.returns
returns c =
    ranges_met c.requires c.word_inside.ensures.0 c.word_inside-n.ensures.0 c.if-word_inside-eq1.false c.meet_ranges.ensures
