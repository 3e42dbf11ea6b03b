use Rattle.member_steps.proofs.Tables.{covers_taken}
use Rattle.rule_steps.proofs.covers_steps.Goals as goal

pub returns : goal.returns
returns c =
    covers_taken c.args.steps.now c.args.src.now c.args.chained c.cover_parts-r.ensures c.record_steps.ensures
