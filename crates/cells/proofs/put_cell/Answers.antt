use mathlib.Core.Path.{sym}
use lib.Seq.{set_out}
use Rattle.cells.proofs.put_cell.Goals as goal

pub returns-else-i-t : goal.returns-else-i-t
returns-else-i-t c = sym (set_out c.args.t.now c.args.i c.args.v c.if-i-t.false)
