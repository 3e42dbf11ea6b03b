use Rattle.check_parts.proofs.Seen.{none_seen}
use Rattle.gsubgpos.specs.Marks.{marked_none}
use Rattle.check_parts.proofs.check_through.Goals as goal

pub check_each-requires : goal.check_each-requires
check_each-requires c = (c.requires, none_seen 1, marked_none 1)
