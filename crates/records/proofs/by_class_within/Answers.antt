use Rattle.records.proofs.Within.{classes_plain, classes_chained}
use Rattle.records.proofs.by_class_within.Goals as goal

pub returns-then-chained : goal.returns-then-chained
returns-then-chained c =
    rw c.if-chained.true (classes_chained c.args.src.now c.header.ensures.0 c.sets_within.ensures)

pub returns : goal.returns
returns c =
    rw c.if-chained.false (classes_plain c.args.src.now c.header-2.ensures.0 c.sets_within-2.ensures)
