use Rattle.compare_lists.proofs.+lay_own.Given as goal

abbrev pub decreases-lay_own : goal.decreases-lay_own
decreases-lay_own l = l.rounds
