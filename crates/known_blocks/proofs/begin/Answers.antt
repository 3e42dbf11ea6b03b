use Rattle.known_blocks.proofs.Settling.{begun}
use Rattle.known_blocks.proofs.begin.Goals as goal

pub returns : goal.returns
returns c = begun c.put_cell.ensures c.last-z.ensures c.put_cell-2.ensures
