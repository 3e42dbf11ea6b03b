use Rattle.packed_sets.proofs.Booking.{wrote_asked, wrote_plain}
use native.Mathlib.Omega.{arith}
use Rattle.packed_sets.proofs.write_sets.Goals as goal

pub returns-then-notes-eq1 : goal.returns-then-notes-eq1
returns-then-notes-eq1 c = wrote_asked c.if-notes-eq1.true c.write_packed.ensures

pub returns : goal.returns
returns c = wrote_plain 1 (omega arith) c.if-notes-eq1.false c.write_kept.ensures
