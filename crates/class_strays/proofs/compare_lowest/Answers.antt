use Prim.Native.Nat.{◌+◌}
use Rattle.class_strays.proofs.Walking.{lowest_differ, lowest_agree}
use Rattle.class_strays.proofs.compare_lowest.Goals as goal

pub returns-then-l-r : goal.returns-then-l-r
returns-then-l-r c =
    lowest_differ c.args.t.now (c.args.base + c.args.c) (c.args.base + 65536 + c.args.d) c.cell.ensures.0 c.lowest_in-l.ensures.0 c.cell-2.ensures.0 c.lowest_in-r.ensures.0 c.if-l-r.true c.put_cell.ensures c.put_cell-then-l-r.ensures

pub returns-else-l-r : goal.returns-else-l-r
returns-else-l-r c =
    lowest_agree c.args.t.now (c.args.base + c.args.c) (c.args.base + 65536 + c.args.d) c.cell.ensures.0 c.lowest_in-l.ensures.0 c.cell-2.ensures.0 c.lowest_in-r.ensures.0 c.if-l-r.false
