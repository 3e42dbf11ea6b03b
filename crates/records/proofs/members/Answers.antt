use Prim.Native.Nat.{◌-◌}
use native.Mathlib.Omega.{arith}
use Rattle.records.specs.Crowded.{counting_all, counting_next, counting_end}
use Rattle.records.proofs.members.Goals as goal

pub loop-i-init : goal.loop-i-init
loop-i-init c = counting_all

pub overflow_add-total : goal.overflow_add-total
overflow_add-total c = omega (arith, c.loop-i.invariant.few)

pub loop-i-preserved : goal.loop-i-preserved
loop-i-preserved c =
    counting_next c.loop-i.invariant c.loop-i-test.true c.word_at-at.ensures.0 c.word_at-total.ensures

pub returns : goal.returns
returns c = counting_end c.loop-i.invariant c.loop-i-test.false c.requires.1
