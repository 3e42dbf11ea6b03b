use Rattle.listing.specs.Listed.{through_all, through_end, listed_length}
use Rattle.value_differences.specs.Held.{values_at}
use Rattle.value_differences.proofs.Values.{valuing_turn}
use Rattle.value_differences.proofs.list_fields.Goals as goal

pub loop-i-init : goal.loop-i-init
loop-i-init c = through_all

pub loop-i-preserved : goal.loop-i-preserved
loop-i-preserved c =
    valuing_turn c.args.g c.args.second (values_at c.args.left.now c.args.p) (values_at c.args.right.now c.args.q) c.loop-i.invariant c.loop-i-test.true c.value_at-a.ensures c.value_at-b.ensures c.put_value-at.ensures

pub shape_of-out : goal.shape_of-out
shape_of-out c = listed_length (through_end c.loop-i.invariant c.loop-i-test.false).0

pub returns : goal.returns
returns c = through_end c.loop-i.invariant c.loop-i-test.false
