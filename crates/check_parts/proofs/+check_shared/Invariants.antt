use Rattle.check_parts.proofs.+check_shared.Given as goal

abbrev pub decreases-check_shared : goal.decreases-check_shared
decreases-check_shared l = l.rounds
