use Prim.Native.Nat.{◌-◌}
use Rattle.replay_cost.proofs.Depths.{summing_all, summing_next, summing_end}
use Rattle.replay_cost.proofs.sum_steps.Goals as goal

pub loop-i-init : goal.loop-i-init
loop-i-init c = summing_all

pub add_steps-sum-requires : goal.add_steps-sum-requires
add_steps-sum-requires c = c.loop-i.invariant.small

pub loop-i-preserved : goal.loop-i-preserved
loop-i-preserved c =
    summing_next c.loop-i.invariant c.loop-i-test.true c.add_steps-sum.ensures

pub returns : goal.returns
returns c = summing_end c.loop-i.invariant c.loop-i-test.false
