use Rattle.std.proofs.Common.{arith}
use Rattle.known_blocks.specs.Book.{book_cells}
use Rattle.class_booked.proofs.Handing.{book_packed}
use Rattle.class_booked.proofs.+write_packed.Goals as goal

-- a new book has no block
pub write_booked-requires : goal.write_booked-requires
write_booked-requires t c = (c.requires.0, c.requires.1, book_packed book_cells (omega arith) c.requires.2)
