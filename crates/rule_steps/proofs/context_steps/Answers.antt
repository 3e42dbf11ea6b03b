use Rattle.member_steps.proofs.Tables.{format_1, format_2, format_3}
use Rattle.rule_steps.proofs.context_steps.Goals as goal

pub returns-then-format-eq1 : goal.returns-then-format-eq1
returns-then-format-eq1 c =
    format_1 c.args.steps.now c.args.src.now c.args.chained c.word_at-format.ensures.0 c.if-format-eq1.true c.word_at.ensures.0 c.sets_steps.ensures

pub returns-then-format-eq2 : goal.returns-then-format-eq2
returns-then-format-eq2 c =
    format_2 c.args.steps.now c.args.src.now c.args.chained c.word_at-format.ensures.0 c.if-format-eq2.true c.classes_steps.ensures

pub returns : goal.returns
returns c =
    format_3 c.args.steps.now c.args.src.now c.args.chained c.word_at-format.ensures.0 c.if-format-eq1.false c.if-format-eq2.false c.covers_steps.ensures
