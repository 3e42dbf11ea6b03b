use native.Mathlib.Omega.{arith}
use Rattle.class_strays.proofs.Walking.{found_holds}
use Rattle.class_strays.proofs.onward.Goals as goal

pub stretch_from-requires : goal.stretch_from-requires
stretch_from-requires c =
    (c.requires.0, c.requires.1.later c.args.glyph (omega arith), c.requires.2)

pub returns : goal.returns
returns c = found_holds c.stretch_from.ensures
