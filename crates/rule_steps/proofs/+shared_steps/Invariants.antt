use Rattle.rule_steps.proofs.+shared_steps.Given as goal

abbrev pub decreases-shared_steps : goal.decreases-shared_steps
decreases-shared_steps l = l.rounds
