use Rattle.class_strays.proofs.Walking.{put_empty, put_full}
use Rattle.class_numbers.proofs.put_first.Goals as goal

pub returns-then-cell-eq0 : goal.returns-then-cell-eq0
returns-then-cell-eq0 c =
    put_empty c.args.t.now c.args.i c.args.v c.cell.ensures.0 c.if-cell-eq0.true c.put_cell.ensures

pub returns-else-cell-eq0 : goal.returns-else-cell-eq0
returns-else-cell-eq0 c =
    put_full c.args.t.now c.args.i c.args.v c.cell.ensures.0 c.if-cell-eq0.false
