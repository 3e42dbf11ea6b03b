use Rattle.class_stretches.specs.Tables.{head_inside, array_inside}
use Rattle.class_stretches.proofs.Reading.{found_null, found_array, found_ranges, ranges_ready}
use native.Mathlib.Omega.{arith}
use Rattle.class_stretches.proofs.stretch_from.Goals as goal

pub returns-then-at-eq0 : goal.returns-then-at-eq0
returns-then-at-eq0 c =
    found_null c.args.src.now c.if-at-eq0.true c.requires.2

pub word_inside-requires : goal.word_inside-requires
word_inside-requires c = omega (arith, head_inside c.if-at-eq0.false c.requires.0)

pub array_stretch-requires : goal.array_stretch-requires
array_stretch-requires c =
    (array_inside c.if-at-eq0.false c.requires.0 c.word_inside.ensures.0 c.if-word_inside-eq1.true, c.requires.2)

pub returns-then-word_inside-eq1 : goal.returns-then-word_inside-eq1
returns-then-word_inside-eq1 c =
    found_array c.args.src.now c.if-at-eq0.false c.requires.0 c.word_inside.ensures.0 c.if-word_inside-eq1.true c.array_stretch.ensures

pub overflow_add-at : goal.overflow_add-at
overflow_add-at c = omega (arith, head_inside c.if-at-eq0.false c.requires.0)

pub word_inside-n-requires : goal.word_inside-n-requires
word_inside-n-requires c = omega (arith, head_inside c.if-at-eq0.false c.requires.0)

pub overflow_add-at-2 : goal.overflow_add-at-2
overflow_add-at-2 c = omega (arith, head_inside c.if-at-eq0.false c.requires.0)

pub range_stretch-requires : goal.range_stretch-requires
range_stretch-requires c =
    let r = ranges_ready c.args.src.now c.if-at-eq0.false c.requires.0 c.word_inside.ensures.0 c.word_inside-n.ensures.0 c.if-word_inside-eq1.false c.requires.1 in
    (r.0, r.1, r.2, c.requires.2)

pub returns : goal.returns
returns c =
    found_ranges c.args.src.now c.if-at-eq0.false c.requires.0 c.word_inside.ensures.0 c.word_inside-n.ensures.0 c.if-word_inside-eq1.false c.range_stretch.ensures
