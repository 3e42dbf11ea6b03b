use Rattle.cover_parts.proofs.Rows.{counted_asks}
use Rattle.cover_parts.proofs.Lays.{laid_said}
use Rattle.cover_rows.proofs.write_counted_row.Goals as goal

pub write_row-requires : goal.write_row-requires
write_row-requires c =
    counted_asks c.requires.0 c.requires.1 c.put.ensures.1

pub returns : goal.returns
returns c = laid_said c.put.ensures.1 c.write_row.ensures
