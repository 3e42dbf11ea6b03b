use Rattle.rules.proofs.rule_parts.Goals as goal

pub returns-then-chained : goal.returns-then-chained
returns-then-chained c = rw c.if-chained.true c.chained_parts.ensures

pub returns : goal.returns
returns c = rw c.if-chained.false c.plain_parts.ensures
