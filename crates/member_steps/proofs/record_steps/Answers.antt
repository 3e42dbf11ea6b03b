use Rattle.member_steps.proofs.Sums.{adding_all, adding_next, adding_end}
use Rattle.member_steps.proofs.record_steps.Goals as goal

pub loop-i-init : goal.loop-i-init
loop-i-init c = adding_all

pub add_steps-sum-requires : goal.add_steps-sum-requires
add_steps-sum-requires c = c.loop-i.invariant.small

pub loop-i-preserved : goal.loop-i-preserved
loop-i-preserved c =
    adding_next c.loop-i.invariant c.loop-i-test.true c.word_at.ensures.0 c.steps_of-one.ensures c.add_steps-sum.ensures

pub returns : goal.returns
returns c = adding_end c.loop-i.invariant c.loop-i-test.false
