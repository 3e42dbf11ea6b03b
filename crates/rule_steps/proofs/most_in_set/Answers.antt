use native.Mathlib.Omega.{arith}
use Rattle.member_steps.proofs.Most.{set_all, set_null, set_rule, set_end}
use Rattle.rule_steps.proofs.most_in_set.Goals as goal
use Rattle.rule_steps.proofs.most_in_set.Goals.{then-off-ne0, else-off-ne0}

pub loop-i-init : goal.loop-i-init
loop-i-init c = set_all c.requires.1

pub most_once-top-requires : goal.most_once-top-requires
most_once-top-requires c =
    (omega (arith, c.requires.0, c.word_at-off.ensures.1), c.loop-i.invariant.counted)

pub loop-i-preserved : goal.loop-i-preserved
loop-i-preserved c =
    elim c.if-off-ne0.branch [
      | then-off-ne0 w ↦ rw (w.top-is, w.marks-is) (set_rule c.loop-i.invariant c.loop-i-test.true c.word_at-off.ensures.0 w.if-off-ne0.true w.most_once-top.ensures)
      | else-off-ne0 w ↦ rw (w.top-is, w.marks-is) (set_null c.loop-i.invariant c.loop-i-test.true c.word_at-off.ensures.0 w.if-off-ne0.false)
    ]

pub returns : goal.returns
returns c = set_end c.loop-i.invariant c.loop-i-test.false c.word_at-n.ensures.0
