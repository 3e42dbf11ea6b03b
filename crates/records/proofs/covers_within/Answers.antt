use Rattle.records.proofs.covers_within.Goals as goal

pub returns-then-chained : goal.returns-then-chained
returns-then-chained c = rw c.if-chained.true c.chained_covers_within.ensures

pub returns : goal.returns
returns c = rw c.if-chained.false c.plain_covers_within.ensures
