use Rattle.gsubgpos.specs.Marks.{marked_none}
use Rattle.records.proofs.sets_within.Goals as goal

pub sets_within-requires : goal.sets_within-requires
sets_within-requires c =
    (c.requires.0, c.requires.1, marked_none 1)
