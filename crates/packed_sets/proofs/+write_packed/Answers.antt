use Rattle.std.proofs.Common.{arith}
use Rattle.known_blocks.specs.Book.{book_cells}
use Rattle.packed_sets.proofs.Booking.{book_roomy, wrote_packed}
use Rattle.packed_sets.proofs.+write_packed.Goals as goal

pub write_kept-requires : goal.write_kept-requires
write_kept-requires t c = (c.requires.0, c.requires.2, c.requires.1, book_roomy book_cells (omega arith))

pub returns : goal.returns
returns t c = wrote_packed book_cells (omega arith) c.write_kept.ensures
