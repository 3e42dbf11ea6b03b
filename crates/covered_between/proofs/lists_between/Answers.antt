use Rattle.halving.specs.Columns.{list_rising}
use Rattle.covered_between.proofs.Between.{list_none, list_here}
use native.Mathlib.Omega.{arith}
use Rattle.covered_between.proofs.lists_between.Goals as goal

pub reach-i-requires : goal.reach-i-requires
reach-i-requires c =
    (list_rising c.args.src.now c.args.at c.args.n c.requires.0.fits c.requires.0.ascend, omega arith)

pub returns-then-n-i : goal.returns-then-n-i
returns-then-n-i c =
    list_none c.args.last c.requires.0 c.reach-i.ensures c.if-n-i.true

pub returns : goal.returns
returns c =
    list_here c.args.last c.requires.0 c.reach-i.ensures c.if-n-i.false c.word_at.ensures.0
