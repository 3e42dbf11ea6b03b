use Rattle.bits.proofs.Laws.{bit_fits, put_mark, put_none}
use Rattle.bits.proofs.put_bit.Goals as goal

pub returns-then-t-i : goal.returns-then-t-i
returns-then-t-i c =
    put_none c.args.at c.args.x c.args.t.now c.if-t-i.true

pub put_cell-requires : goal.put_cell-requires
put_cell-requires c = bit_fits c.cell-others.result c.args.x c.cell-others.ensures.1

pub returns : goal.returns
returns c =
    put_mark c.args.at c.args.x c.args.t.now c.cell-others.ensures.0 c.put_cell.ensures
