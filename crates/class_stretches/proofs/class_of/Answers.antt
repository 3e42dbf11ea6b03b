use Rattle.meaning.specs.Parts.{class_in}
use native.Mathlib.Omega.{arith}
use Rattle.class_stretches.proofs.class_of.Goals as goal

pub returns : goal.returns
unfolding class_in
returns c =
    (c.stretch_from-found.ensures.stretch.same c.args.glyph (omega arith) c.stretch_from-found.ensures.stretch.holds, c.stretch_from-found.ensures.stretch.small)
