use Rattle.rule_rows.specs.Rows.{side_of}
use Rattle.set_numbers.proofs.Slots.{siding_none, siding_same, siding_turn, siding_end}
use native.Mathlib.Omega.{arith}
use Rattle.set_numbers.proofs.number_side.Goals as goal

pub loop-i-init : goal.loop-i-init
loop-i-init c =
    siding_none (side_of c.args.slots.side c.args.left.now c.args.right.now) c.args.slots.side c.args.slots.at c.word_of-n.ensures.0 c.requires.2

pub loop-i-preserved-then-at-last : goal.loop-i-preserved-then-at-last
loop-i-preserved-then-at-last c = siding_same c.loop-i.invariant c.loop-i-test.true c.word_of-at.ensures.0 c.if-at-last.true

pub number_set-requires : goal.number_set-requires
number_set-requires c =
    (record { sides = c.requires.1.sides; near = c.word_of-at.ensures.1; codes = omega (arith, c.loop-i.invariant.size, c.requires.1.codes) }, c.loop-i.invariant.book)

pub loop-i-preserved : goal.loop-i-preserved
loop-i-preserved c = siding_turn c.loop-i.invariant c.loop-i-test.true c.word_of-at.ensures.0 c.number_set.ensures (omega arith) (omega arith)

pub shape_of-num : goal.shape_of-num
shape_of-num c = c.loop-i.invariant.size

pub shape_of-came : goal.shape_of-came
shape_of-came c = c.loop-i.invariant.came_size

pub returns : goal.returns
returns c = siding_end c.loop-i.invariant c.loop-i-test.false
