use Rattle.gsubgpos.specs.Marks.{marked_none}
use Rattle.check_parts.proofs.Seen.{none_seen}
use Rattle.check_parts.proofs.+check_shared.Goals as goal

-- no part is marked at first
pub check_each-requires : goal.check_each-requires
check_each-requires t c = (c.requires, none_seen 2048, marked_none 4096)
