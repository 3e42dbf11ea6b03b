use Rattle.cut_sets.proofs.+write_shared.Given as goal

abbrev pub decreases-write_shared : goal.decreases-write_shared
decreases-write_shared l = l.rounds
