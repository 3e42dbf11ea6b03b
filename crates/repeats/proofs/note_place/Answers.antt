use Rattle.known_blocks.proofs.Further.{no_place, place_noted}
use native.Mathlib.Omega.{arith}
use Rattle.repeats.proofs.note_place.Goals as goal

pub returns-then-offset-gt-HIGHEST : goal.returns-then-offset-gt-HIGHEST
returns-then-offset-gt-HIGHEST c = no_place

pub returns-then-n-gt-HIGHEST : goal.returns-then-n-gt-HIGHEST
returns-then-n-gt-HIGHEST c = no_place

pub returns-then-book-count : goal.returns-then-book-count
returns-then-book-count c = no_place

pub returns : goal.returns
returns c = place_noted c.last-z.ensures c.cell-n.ensures.0 (omega (arith, c.cell-count.ensures.0)) c.put_cell.ensures c.put_cell-2.ensures
