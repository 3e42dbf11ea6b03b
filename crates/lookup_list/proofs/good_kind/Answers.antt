use Rattle.lookup_list.proofs.Readying.{kind_one, kind_chained, kind_last}
use Rattle.lookup_list.proofs.good_kind.Goals as goal

pub returns-then-kind-eq1 : goal.returns-then-kind-eq1
returns-then-kind-eq1 c = kind_one c.if-kind-eq1.true

pub returns-then-kind-eq2 : goal.returns-then-kind-eq2
returns-then-kind-eq2 c = kind_chained c.if-kind-eq1.false c.if-kind-eq2.true

pub returns : goal.returns
returns c = kind_last c.args.kind c.if-kind-eq1.false c.if-kind-eq2.false
