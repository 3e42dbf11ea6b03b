use Rattle.fold_pairs.proofs.Laws.{trying_all, trying_ready, trying_next, trying_laid, trying_end}
use Rattle.fold_pairs.proofs.lay.Goals as goal

pub loop-n-init : goal.loop-n-init
loop-n-init c = trying_all c.cells-n.ensures

pub lay_in-requires : goal.lay_in-requires
lay_in-requires c = trying_ready c.loop-n.invariant c.loop-n-test.true

pub returns-then-lay_in : goal.returns-then-lay_in
returns-then-lay_in c =
    trying_laid c.loop-n.invariant c.loop-n-test.true c.lay_in.ensures c.if-lay_in.true

pub loop-n-preserved : goal.loop-n-preserved
loop-n-preserved c =
    trying_next c.loop-n.invariant c.loop-n-test.true c.lay_in.ensures c.if-lay_in.false

pub returns : goal.returns
returns c = trying_end c.loop-n.invariant c.loop-n-test.false
