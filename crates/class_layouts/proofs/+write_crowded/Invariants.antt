use Rattle.class_layouts.proofs.+write_crowded.Given as goal

abbrev pub decreases-write_crowded : goal.decreases-write_crowded
decreases-write_crowded l = l.rounds
