use native.Mathlib.Omega.{arith}
use Rattle.records.proofs.Within.{within_1, within_2, within_3}
use Rattle.records.proofs.context_within.Goals as goal

pub returns-in-1 : goal.returns-in-1
returns-in-1 c =
    within_1 c.args.chained c.args.src.now c.header-format.ensures.0 (omega arith) c.header.ensures.0 c.sets_within.ensures

pub returns-in-2 : goal.returns-in-2
returns-in-2 c =
    within_2 c.args.chained c.args.src.now c.header-format.ensures.0 (omega arith) c.by_class_within.ensures

pub returns-in_default : goal.returns-in_default
returns-in_default c =
    within_3 c.args.chained c.args.src.now c.header-format.ensures.0 (omega arith) (omega arith) c.covers_within.ensures
