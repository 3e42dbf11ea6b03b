use Prim.Native.Nat.{◌+◌, ◌-◌}
use native.Mathlib.Omega.{arith}
use Rattle.ranks.proofs.Laws.{counting_none, counting_few, counting_inside, counting_ones, counting_turn, counting_end}
use Rattle.ranks.proofs.count_marks.Goals as goal

pub loop-i-init : goal.loop-i-init
loop-i-init c = counting_none c.requires

pub overflow_cast-t : goal.overflow_cast-t
overflow_cast-t c = omega (arith, counting_few c.loop-i.invariant)

pub bounds-t-at-in-loop-i : goal.bounds-t-at-in-loop-i
bounds-t-at-in-loop-i c = counting_inside c.loop-i.invariant c.loop-i-test.true

pub overflow_cast-count : goal.overflow_cast-count
overflow_cast-count c =
    omega (arith, counting_ones c.loop-i.invariant c.loop-i-test.true (omega (arith, c.type_inv.t (c.args.at + c.loop-i.i))))

pub overflow_add-count-in-loop-i : goal.overflow_add-count-in-loop-i
overflow_add-count-in-loop-i c =
    omega (arith, counting_few c.loop-i.invariant, counting_ones c.loop-i.invariant c.loop-i-test.true (omega (arith, c.type_inv.t (c.args.at + c.loop-i.i))))

pub loop-i-preserved : goal.loop-i-preserved
loop-i-preserved c =
    counting_turn c.loop-i.invariant c.loop-i-test.true (omega (arith, c.type_inv.t (c.args.at + c.loop-i.i)))

pub shape_of-t : goal.shape_of-t
shape_of-t c = c.loop-i.invariant.size

pub returns : goal.returns
returns c = counting_end c.loop-i.invariant c.loop-i-test.false
