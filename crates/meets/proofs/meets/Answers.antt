use native.Mathlib.Omega.{arith}
use Rattle.meets.proofs.Forms.{seeks_head, list_seeks, list_answers, ranges_seek, ranges_answer}
use Rattle.meets.proofs.meets.Goals as goal

pub overflow_add-at : goal.overflow_add-at
overflow_add-at c = omega (arith, seeks_head c.requires)

pub word_inside-n-requires : goal.word_inside-n-requires
word_inside-n-requires c = omega (arith, seeks_head c.requires)

pub word_inside-requires : goal.word_inside-requires
word_inside-requires c = omega (arith, seeks_head c.requires)

pub overflow_add-at-then-word_inside-eq1 : goal.overflow_add-at-then-word_inside-eq1
overflow_add-at-then-word_inside-eq1 c = omega (arith, seeks_head c.requires)

pub meets_list-requires : goal.meets_list-requires
meets_list-requires c =
    list_seeks c.requires c.word_inside.ensures.0 c.word_inside-n.ensures.0 c.if-word_inside-eq1.true

pub returns-then-word_inside-eq1 : goal.returns-then-word_inside-eq1
returns-then-word_inside-eq1 c =
    list_answers c.requires c.word_inside.ensures.0 c.word_inside-n.ensures.0 c.if-word_inside-eq1.true c.meets_list.ensures

pub overflow_add-at-2 : goal.overflow_add-at-2
overflow_add-at-2 c = omega (arith, seeks_head c.requires)

pub meets_ranges-requires : goal.meets_ranges-requires
meets_ranges-requires c =
    ranges_seek c.requires c.word_inside.ensures.0 c.word_inside-n.ensures.0 c.if-word_inside-eq1.false

pub returns : goal.returns
returns c =
    ranges_answer c.requires c.word_inside.ensures.0 c.word_inside-n.ensures.0 c.if-word_inside-eq1.false c.meets_ranges.ensures
