use Rattle.member_steps.proofs.Most.{sets_all, sets_null, sets_set, sets_end}
use Rattle.rule_steps.proofs.most_in_sets.Goals as goal
use Rattle.rule_steps.proofs.most_in_sets.Goals.{then-set-ne0, else-set-ne0}

pub loop-i-init : goal.loop-i-init
loop-i-init c = sets_all c.requires.2

pub most_in_set-top-requires : goal.most_in_set-top-requires
most_in_set-top-requires c =
    (c.word_at-set.ensures.1, c.loop-i.invariant.counted)

pub loop-i-preserved : goal.loop-i-preserved
loop-i-preserved c =
    elim c.if-set-ne0.branch [
      | then-set-ne0 w ↦ rw (w.top-is, w.marks-is) (sets_set c.loop-i.invariant c.loop-i-test.true c.word_at-set.ensures.0 w.if-set-ne0.true w.most_in_set-top.ensures)
      | else-set-ne0 w ↦ rw (w.top-is, w.marks-is) (sets_null c.loop-i.invariant c.loop-i-test.true c.word_at-set.ensures.0 w.if-set-ne0.false)
    ]

pub returns : goal.returns
returns c = sets_end c.loop-i.invariant c.loop-i-test.false
