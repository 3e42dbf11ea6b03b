use Rattle.member_steps.proofs.Tables.{rule_taken}
use Rattle.member_steps.proofs.rule_steps.Goals as goal

pub returns : goal.returns
returns c =
    rule_taken c.args.steps.now c.args.src.now c.args.chained c.args.at c.rule_parts-r.ensures c.record_steps.ensures
