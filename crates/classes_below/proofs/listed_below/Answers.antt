use Rattle.covered_between.proofs.Stretching.{left_all}
use Rattle.covered_between.proofs.Counting.{listed_next, listed_past, listed_end}
use native.Mathlib.Omega.{arith}
use Rattle.classes_below.proofs.listed_below.Goals as goal

pub loop-i-init : goal.loop-i-init
loop-i-init c = left_all

pub stretch_at-requires : goal.stretch_at-requires
stretch_at-requires c =
    (c.requires.1, omega arith, omega (arith, c.count-k.ensures.0))

pub returns-then-n-stretch_at : goal.returns-then-n-stretch_at
returns-then-n-stretch_at c =
    listed_past c.args.src.now c.args.at c.args.n c.count-k.ensures.0 c.loop-i-test.true c.stretch_at.ensures c.requires.0 c.requires.2 c.loop-i.invariant c.if-n-stretch_at.true

pub loop-i-preserved : goal.loop-i-preserved
loop-i-preserved c =
    listed_next c.args.src.now c.args.at c.args.n c.count-k.ensures.0 c.loop-i-test.true c.stretch_at.ensures c.loop-i.invariant c.if-n-stretch_at.false

pub returns : goal.returns
returns c =
    listed_end c.args.src.now c.args.at c.args.n c.requires.0 c.requires.2 c.count-k.ensures.0 c.loop-i-test.false c.loop-i.invariant
