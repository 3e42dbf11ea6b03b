use native.Mathlib.Omega.{arith}
use Prim.Native.Nat.{◌-◌}
use mathlib.Core.Path.{refl}
use borrow.Author.Rules.{rules}
use Rattle.member_steps.proofs.Sums.{limit_is}
use Rattle.replay_cost.proofs.Depths.{filling_all, filling_next, filling_end}
use Rattle.replay_cost.proofs.level.Goals as goal

pub loop-lookup-init : goal.loop-lookup-init
loop-lookup-init c = (refl, filling_all)

pub listed_steps-rule-requires : goal.listed_steps-rule-requires
listed_steps-rule-requires c =
    (c.requires, omega (arith, c.loop-lookup.invariant.0))

pub add_steps-requires : goal.add_steps-requires
add_steps-requires c = omega (arith, limit_is)

pub loop-lookup-preserved : goal.loop-lookup-preserved
loop-lookup-preserved c =
    (c.loop-lookup.invariant.0, filling_next c.loop-lookup.invariant.1 c.loop-lookup-test.true c.listed_steps-rule.ensures c.add_steps.ensures.0 c.put_steps.ensures (search rules))

pub returns : goal.returns
returns c = filling_end c.loop-lookup.invariant.1 c.loop-lookup-test.false

pub shape_of-next : goal.shape_of-next
shape_of-next c = c.loop-lookup.invariant.1.long
