use Rattle.kept_rules.proofs.write_rule.Goals as goal

pub write_chained-requires : goal.write_chained-requires
write_chained-requires c =
    (rw c.if-chained.true at c.requires.0, c.requires.1, c.requires.2, c.requires.3)

pub returns-then-chained : goal.returns-then-chained
returns-then-chained c = rw c.if-chained.true c.write_chained.ensures

pub write_plain-requires : goal.write_plain-requires
write_plain-requires c =
    (rw c.if-chained.false at c.requires.0, c.requires.1, c.requires.3)

pub returns : goal.returns
returns c = rw c.if-chained.false c.write_plain.ensures
