use native.Mathlib.Omega.{arith}
use Rattle.class_tables.proofs.Numbering.{sound_at, all_numbered}
use Rattle.class_tables.proofs.number_tables.Goals as goal

pub number_classes-requires : goal.number_classes-requires
number_classes-requires c =
    (sound_at c.back_at-back.ensures c.requires.0.back, sound_at c.back_at.ensures c.requires.1.back, omega (arith, c.requires.2))

pub number_classes-requires-2 : goal.number_classes-requires-2
number_classes-requires-2 c =
    (sound_at c.input_at-input.ensures c.requires.0.input, sound_at c.input_at.ensures c.requires.1.input, omega (arith, c.requires.2, c.number_classes.ensures.1.size))

pub number_classes-requires-3 : goal.number_classes-requires-3
number_classes-requires-3 c =
    (sound_at c.ahead_at-ahead.ensures c.requires.0.ahead, sound_at c.ahead_at.ensures c.requires.1.ahead, omega (arith, c.requires.2, c.number_classes.ensures.1.size, c.number_classes-2.ensures.1.size))

pub returns : goal.returns
returns c =
    all_numbered c.args.chained c.args.left.now c.args.right.now
    c.back_at-back.ensures c.back_at.ensures c.number_classes.ensures
    c.input_at-input.ensures c.input_at.ensures c.number_classes-2.ensures
    c.ahead_at-ahead.ensures c.ahead_at.ensures c.number_classes-3.ensures
