use Rattle.gsubgpos.specs.Marks.{marked_none}
use Rattle.records.proofs.+shared_within.Goals as goal

-- no rule is marked at first
pub sets_within-requires : goal.sets_within-requires
sets_within-requires t c = (c.requires.0, c.requires.1, marked_none 4096)
