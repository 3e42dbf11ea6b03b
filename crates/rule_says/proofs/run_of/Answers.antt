use Rattle.rule_says.proofs.run_of.Goals as goal

pub returns : goal.returns
returns c = rw c.base_of.ensures.0
