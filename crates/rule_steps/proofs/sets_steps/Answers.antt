use Rattle.member_steps.proofs.Most.{none_counted}
use Rattle.rule_steps.proofs.sets_steps.Goals as goal

pub most_in_sets-requires : goal.most_in_sets-requires
most_in_sets-requires c =
    (c.requires.0, c.requires.1, none_counted 1)
