use Rattle.class_booked.proofs.Handing.{book_plain}
use Rattle.class_layouts.proofs.write_context.Goals as goal

pub write_booked-requires : goal.write_booked-requires
write_booked-requires c = (c.requires.0, c.requires.1, book_plain c.if-prepared-eq1.false)
