use Rattle.rules.proofs.Within.{rule_places}
use Rattle.rules.proofs.rule_within.Goals as goal

pub returns : goal.returns
returns c = rule_places c.rule_parts-r.ensures c.indexes_below.ensures
