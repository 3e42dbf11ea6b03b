use native.Mathlib.Omega.{arith}
use Rattle.meets.proofs.Forms.{meets_head, pairs_ask, pairs_met, list_asks, list_met, ranges_ask, ranges_met}
use Rattle.meet_runs.proofs.meet.Goals as goal

pub meet-requires : goal.meet-requires
meet-requires c = pairs_ask c.requires c.if-form-eq4.true

pub returns-then-form-eq4 : goal.returns-then-form-eq4
returns-then-form-eq4 c = pairs_met c.requires c.if-form-eq4.true c.meet.ensures

pub overflow_add-at : goal.overflow_add-at
overflow_add-at c = omega (arith, meets_head c.requires)

pub word_inside-n-requires : goal.word_inside-n-requires
word_inside-n-requires c = omega (arith, meets_head c.requires)

pub word_inside-requires : goal.word_inside-requires
word_inside-requires c = omega (arith, meets_head c.requires)

pub overflow_add-at-then-word_inside-eq1 : goal.overflow_add-at-then-word_inside-eq1
overflow_add-at-then-word_inside-eq1 c = omega (arith, meets_head c.requires)

pub meet_list-requires : goal.meet_list-requires
meet_list-requires c =
    list_asks c.requires c.if-form-eq4.false c.word_inside.ensures.0 c.word_inside-n.ensures c.if-word_inside-eq1.true

pub returns-then-word_inside-eq1 : goal.returns-then-word_inside-eq1
returns-then-word_inside-eq1 c =
    list_met c.requires c.if-form-eq4.false c.word_inside.ensures.0 c.word_inside-n.ensures c.if-word_inside-eq1.true c.meet_list.ensures

pub overflow_add-at-2 : goal.overflow_add-at-2
overflow_add-at-2 c = omega (arith, meets_head c.requires)

pub meet_ranges-requires : goal.meet_ranges-requires
meet_ranges-requires c =
    ranges_ask c.requires c.if-form-eq4.false c.word_inside.ensures.0 c.word_inside-n.ensures c.if-word_inside-eq1.false

pub returns : goal.returns
returns c =
    ranges_met c.requires c.if-form-eq4.false c.word_inside.ensures.0 c.word_inside-n.ensures c.if-word_inside-eq1.false c.meet_ranges.ensures
