use Rattle.halving.specs.Columns.{ends_rising}
use Rattle.covered_between.proofs.Between.{range_none, range_here}
use native.Mathlib.Omega.{arith}
use Rattle.covered_between.proofs.ranges_between.Goals as goal

pub reach-i-requires : goal.reach-i-requires
reach-i-requires c =
    (ends_rising c.args.src.now c.args.at c.args.n c.requires.0.fits c.requires.0.ascend, omega arith)

pub returns-then-n-i : goal.returns-then-n-i
returns-then-n-i c =
    range_none c.args.last c.requires.0 c.reach-i.ensures c.if-n-i.true

pub returns : goal.returns
returns c =
    range_here c.args.last c.requires.0 c.reach-i.ensures c.if-n-i.false c.requires.2 c.word_at.ensures.0
