use Rattle.cover_parts.proofs.cover_parts.Goals as goal

pub chained_parts-requires : goal.chained_parts-requires
chained_parts-requires c = rw c.if-chained.true at c.requires

pub returns-then-chained : goal.returns-then-chained
returns-then-chained c = rw c.if-chained.true c.chained_parts.ensures

pub plain_parts-requires : goal.plain_parts-requires
plain_parts-requires c = rw c.if-chained.false at c.requires

pub returns : goal.returns
returns c = rw c.if-chained.false c.plain_parts.ensures
