use Rattle.records.proofs.+shared_within.Given as goal

abbrev pub decreases-shared_within : goal.decreases-shared_within
decreases-shared_within l = l.rounds
