use native.Mathlib.Omega.{arith}
use Rattle.pair_fields.proofs.Pairing.{valuing_all, valuing_turn, valuing_end}
use Rattle.pair_sets.proofs.write_values.Goals as goal

pub loop-i-init : goal.loop-i-init
loop-i-init c = valuing_all (omega arith)

pub loop-i-preserved : goal.loop-i-preserved
loop-i-preserved c =
    valuing_turn c.loop-i.invariant c.loop-i-test.true c.value_at-value.ensures c.put.ensures

pub shape_of-area : goal.shape_of-area
shape_of-area c = c.loop-i.invariant.same

pub returns : goal.returns
returns c = valuing_end c.loop-i.invariant c.loop-i-test.false
