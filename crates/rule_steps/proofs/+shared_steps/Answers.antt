use Rattle.member_steps.proofs.Most.{none_counted}
use Rattle.rule_steps.proofs.+shared_steps.Goals as goal

-- no rule is counted at first
pub most_in_sets-requires : goal.most_in_sets-requires
most_in_sets-requires t c = (c.requires.0, c.requires.1, none_counted 4096)
