use native.Mathlib.Omega.{arith}
use Rattle.records.proofs.Within.{within_plain, within_chain, within_other}
use Rattle.records.proofs.records_within.Goals as goal

pub returns-in-1 : goal.returns-in-1
returns-in-1 c =
    within_plain c.args.kind c.args.src.now (omega arith) c.context_within.ensures

pub returns-in-2 : goal.returns-in-2
returns-in-2 c =
    within_chain c.args.kind c.args.src.now (omega arith) c.context_within-in-2.ensures

pub returns-in_default : goal.returns-in_default
returns-in_default c =
    within_other c.args.kind c.args.src.now (omega arith) (omega arith)
