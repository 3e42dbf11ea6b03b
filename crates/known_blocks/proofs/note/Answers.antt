use Rattle.known_blocks.proofs.Settling.{noted_by, not_noted}
use Rattle.known_blocks.proofs.note.Goals as goal

pub returns-then-offset-gt-HIGHEST : goal.returns-then-offset-gt-HIGHEST
returns-then-offset-gt-HIGHEST c = not_noted c.if-offset-gt-HIGHEST.true

pub returns : goal.returns
returns c = noted_by c.cell-count.ensures.0 c.put_cell.ensures c.put_cell-2.ensures
