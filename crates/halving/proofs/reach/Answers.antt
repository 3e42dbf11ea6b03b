use Prim.Native.Nat.{◌+◌, ◌-◌, ◌*◌, ◌<◌}
use native.Mathlib.Omega.{arith}
use lib.ListN.{length}
use Rattle.halving.proofs.Searching.{searching_all, searching_up, searching_down, searching_end}
use Rattle.halving.proofs.reach.Goals as goal
use Rattle.halving.proofs.reach.Goals.{After-probe-mid}

pub loop-lo-init : goal.loop-lo-init
loop-lo-init c = searching_all c.requires.1

-- the word that is looked at lies inside
probed : (c : After-probe-mid) → c.args.at + c.args.step * c.probe-mid.result + 1 < length c.args.s.now
probed c =
    c.requires.0.inside c.probe-mid.result (omega (arith, c.probe-mid.ensures.1, c.loop-lo.invariant.most))

pub overflow_mul-step : goal.overflow_mul-step
overflow_mul-step c = omega (arith, probed (goal.at.overflow_mul-step c).After-probe-mid)

pub overflow_add-at : goal.overflow_add-at
overflow_add-at c = omega (arith, probed (goal.at.overflow_add-at c).After-probe-mid)

pub word_inside-requires : goal.word_inside-requires
word_inside-requires c = probed (goal.at.word_inside-requires c).After-probe-mid

pub loop-lo-preserved-then-word_inside-value : goal.loop-lo-preserved-then-word_inside-value
loop-lo-preserved-then-word_inside-value c =
    searching_up c.loop-lo.invariant c.probe-mid.ensures c.word_inside.ensures.0 c.requires.0 c.if-word_inside-value.true

pub loop-lo-preserved : goal.loop-lo-preserved
loop-lo-preserved c =
    searching_down c.loop-lo.invariant c.probe-mid.ensures c.word_inside.ensures.0 c.if-word_inside-value.false

pub returns : goal.returns
returns c = searching_end c.loop-lo.invariant c.loop-lo-test.false
