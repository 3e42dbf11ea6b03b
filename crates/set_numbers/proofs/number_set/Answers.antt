use Rattle.rule_rows.specs.Rows.{side_of}
use Rattle.set_numbers.proofs.Slots.{rest_null, rest_there, rest_all, rest_end, null_numbered, numbering_none, numbering_null, numbering_there, numbering_end}
use mathlib.Core.Path.{sym, ◌∙◌}
use native.Mathlib.Omega.{arith}
use Rattle.set_numbers.proofs.number_set.Goals as goal

pub returns-then-set-eq0 : goal.returns-then-set-eq0
returns-then-set-eq0 c =
    null_numbered (side_of c.args.set.side c.args.left.now c.args.right.now) c.args.set.side c.args.set.at c.if-set-eq0.true c.requires.1

pub loop-i-init : goal.loop-i-init
loop-i-init c =
    (numbering_none (rest_all (side_of c.args.set.side c.args.left.now c.args.right.now) c.args.set.side c.args.set.at c.if-set-eq0.false c.word_of-n.ensures.0) c.requires.1, omega arith)

pub loop-i-preserved-then-offset-eq0 : goal.loop-i-preserved-then-offset-eq0
loop-i-preserved-then-offset-eq0 c =
    (numbering_null c.loop-i.invariant.0 (rest_null (side_of c.args.set.side c.args.left.now c.args.right.now) c.args.set.side c.args.set.at c.word_of-n.result c.loop-i.i c.loop-i-test.true (sym c.word_of-offset.ensures.0 ∙ c.if-offset-eq0.true)), omega (arith, c.loop-i-test.true))

pub number-requires : goal.number-requires
number-requires c =
    (omega (arith, c.loop-i.invariant.0.size, c.requires.0.codes, c.requires.0.near, c.requires.0.sides, c.word_of-offset.ensures.1), c.loop-i.invariant.0.book)

pub loop-i-preserved : goal.loop-i-preserved
loop-i-preserved c =
    let e = rest_there (side_of c.args.set.side c.args.left.now c.args.right.now) c.args.set.side c.args.set.at c.word_of-n.result c.loop-i.i c.loop-i-test.true (λ z. c.if-offset-eq0.false (c.word_of-offset.ensures.0 ∙ z)) in
    (numbering_there c.loop-i.invariant.0 (rw (← c.word_of-offset.ensures.0) at e) c.number.ensures (omega arith) (omega arith), omega (arith, c.loop-i-test.true))

pub shape_of-num : goal.shape_of-num
shape_of-num c = c.loop-i.invariant.0.size

pub shape_of-came : goal.shape_of-came
shape_of-came c = c.loop-i.invariant.0.came_size

pub returns : goal.returns
returns c =
    numbering_end c.loop-i.invariant.0 (rest_end (side_of c.args.set.side c.args.left.now c.args.right.now) c.args.set.side c.args.set.at c.word_of-n.result c.loop-i.i c.loop-i-test.false)
