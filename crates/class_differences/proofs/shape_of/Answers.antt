use Rattle.class_differences.proofs.shape_of.Goals as goal

pub returns-then-chained : goal.returns-then-chained
returns-then-chained c = rw c.if-chained.true

pub returns : goal.returns
returns c = rw c.if-chained.false
