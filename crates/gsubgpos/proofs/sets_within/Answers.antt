use borrow.Author.Rules.{rules}
use Rattle.gsubgpos.proofs.Within.{sets_start, sets_end, rules_start, rules_next, rules_past, sets_next}
use Rattle.gsubgpos.proofs.sets_within.Goals as goal

pub sets-init : goal.sets-init
sets-init c = sets_start c.requires.2

pub loop-k-init : goal.loop-k-init
loop-k-init c =
    rules_start c.sets.invariant c.sets-test.true c.word_at-set.ensures c.set_count-rules.ensures

pub reached_within-requires : goal.reached_within-requires
reached_within-requires c =
    (c.loop-k.invariant.near, c.loop-k.invariant.sets.marked)

pub loop-k-preserved : goal.loop-k-preserved
loop-k-preserved c =
    rules_next c.loop-k.invariant c.loop-k-test.true c.reached_within.ensures c.if-not-reached_within.false (search rules)

pub sets-preserved : goal.sets-preserved
sets-preserved c = sets_next c.loop-k.invariant c.loop-k-test.false c.sets.invariant.long

pub shape_of-marks-after-sets : goal.shape_of-marks-after-sets
shape_of-marks-after-sets c = c.sets.invariant.long

pub returns-after-sets : goal.returns-after-sets
returns-after-sets c = sets_end c.sets.invariant c.sets-test.false

pub returns-then-not-reached_within : goal.returns-then-not-reached_within
returns-then-not-reached_within c =
    rules_past c.loop-k.invariant c.loop-k-test.true c.reached_within.ensures.0 c.if-not-reached_within.true
