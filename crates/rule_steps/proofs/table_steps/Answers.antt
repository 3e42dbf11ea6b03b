use Rattle.member_steps.proofs.Tables.{kind_plain, kind_chained, kind_other}
use Rattle.rule_steps.proofs.table_steps.Goals as goal

pub returns-then-kind-eq1 : goal.returns-then-kind-eq1
returns-then-kind-eq1 c =
    kind_plain c.args.steps.now c.args.kind c.args.src.now c.if-kind-eq1.true c.context_steps.ensures

pub returns-then-kind-eq2 : goal.returns-then-kind-eq2
returns-then-kind-eq2 c =
    kind_chained c.args.steps.now c.args.kind c.args.src.now c.if-kind-eq2.true c.context_steps-then-kind-eq2.ensures

pub returns : goal.returns
returns c =
    kind_other c.args.steps.now c.args.kind c.args.src.now c.if-kind-eq1.false c.if-kind-eq2.false
