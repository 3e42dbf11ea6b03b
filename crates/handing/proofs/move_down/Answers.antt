use mathlib.Core.Path.{◌∙◌}
use native.Mathlib.Omega.{arith}
use Rattle.handing.proofs.Moved.{moved}
use Rattle.handing.proofs.move_down.Goals as goal

pub returns : goal.returns
returns c = c.copy_within.ensures.after ∙ moved _ _ _ _ c.requires.1 (omega (arith, c.requires))
