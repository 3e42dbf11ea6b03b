use Rattle.set_differences.proofs.Pairs.{remembers}
use Rattle.set_differences.proofs.remember.Goals as goal

pub returns : goal.returns
returns c = remembers c.args.nums.now c.requires.0 c.put_cell.ensures c.put_cell-2.ensures c.put_cell-3.ensures
