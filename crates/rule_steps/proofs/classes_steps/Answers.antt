use Rattle.member_steps.proofs.Tables.{classes_plain, classes_chained}
use Rattle.rule_steps.proofs.classes_steps.Goals as goal

pub returns-then-chained : goal.returns-then-chained
returns-then-chained c =
    rw c.if-chained.true (classes_chained c.args.steps.now c.args.src.now c.word_at.ensures.0 c.sets_steps.ensures)

pub returns : goal.returns
returns c =
    rw c.if-chained.false (classes_plain c.args.steps.now c.args.src.now c.word_at-2.ensures.0 c.sets_steps-2.ensures)
