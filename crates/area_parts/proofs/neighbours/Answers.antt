use mathlib.Core.Path.{refl}
use Rattle.area_parts.proofs.neighbours.Goals as goal

pub returns : goal.returns
returns c = rw (c.new_in.ensures.0, c.new_in-2.ensures.0) refl
