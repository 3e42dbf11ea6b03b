use Rattle.cover_layouts.proofs.+write_packed.Given as goal

abbrev pub decreases-write_packed : goal.decreases-write_packed
decreases-write_packed l = l.rounds
