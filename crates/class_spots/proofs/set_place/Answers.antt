use mathlib.Core.Path.{sym, ◌∙◌}
use native.Mathlib.Omega.{arith}
use Rattle.class_spots.specs.Sets.{place_past, place_unmarked, place_there}
use Rattle.class_spots.proofs.set_place.Goals as goal

pub returns-then-word_inside-class : goal.returns-then-word_inside-class
returns-then-word_inside-class c =
    (place_past c.args.src.now c.args.slots c.args.t.now c.args.marks c.args.class (omega (arith, c.word_inside.ensures)), omega arith)

pub returns-then-not-has_bit : goal.returns-then-not-has_bit
returns-then-not-has_bit c =
    (place_unmarked c.args.src.now c.args.slots c.args.t.now c.args.marks c.args.class (omega (arith, c.word_inside.ensures, c.if-word_inside-class.false)) (sym c.has_bit.ensures ∙ c.if-not-has_bit.true), omega arith)

pub returns : goal.returns
returns c =
    (place_there c.args.src.now c.args.slots c.args.t.now c.args.marks c.args.class (omega (arith, c.word_inside.ensures, c.if-word_inside-class.false)) (sym c.has_bit.ensures ∙ c.if-not-has_bit.false) c.word_inside-2.ensures.0, c.word_inside-2.ensures.1)
