use Rattle.meaning.specs.Parts.{coverage}
use Rattle.covered_between.proofs.Stretching.{left_all}
use Rattle.covered_between.proofs.Counting.{in_order_lem, covered_next, covered_past, covered_end}
use native.Mathlib.Omega.{arith}
use Rattle.classes_below.proofs.covered_below.Goals as goal

pub loop-i-init : goal.loop-i-init
loop-i-init c = left_all

pub stretch_at-requires : goal.stretch_at-requires
stretch_at-requires c =
    (c.requires.3, omega arith, omega (arith, c.count-k.ensures.0))

pub past-requires : goal.past-requires
past-requires c =
    (c.requires.0, c.requires.1, in_order_lem c.args.src.now c.args.at c.args.n c.count-k.ensures.0 c.loop-i-test.true c.stretch_at.ensures c.requires.2)

pub returns-then-past : goal.returns-then-past
returns-then-past c =
    covered_past c.args.src.now c.args.at c.args.n c.count-k.ensures.0 c.loop-i-test.true c.stretch_at.ensures (coverage c.args.src.now c.args.cover) c.past.ensures c.requires.2 c.requires.4 c.loop-i.invariant c.if-past.true

pub loop-i-preserved : goal.loop-i-preserved
loop-i-preserved c =
    covered_next c.args.src.now c.args.at c.args.n c.count-k.ensures.0 c.loop-i-test.true c.stretch_at.ensures (coverage c.args.src.now c.args.cover) c.past.ensures c.loop-i.invariant c.if-past.false

pub returns : goal.returns
returns c =
    covered_end c.args.src.now c.args.at c.args.n c.requires.2 c.requires.4 c.count-k.ensures.0 c.loop-i-test.false (coverage c.args.src.now c.args.cover) c.loop-i.invariant
