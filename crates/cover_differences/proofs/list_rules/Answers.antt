use Rattle.cover_differences.proofs.Saying.{both_listed, none_listed}
use Rattle.cover_differences.proofs.list_rules.Goals as goal

pub returns-then-same : goal.returns-then-same
returns-then-same c = none_listed c.if-same.true

pub returns : goal.returns
returns c =
    both_listed c.if-same.false c.put_listed-p.ensures c.put_listed.ensures
