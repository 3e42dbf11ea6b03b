use Rattle.cover_layouts.proofs.Cut.{begins_new, made_asked, made_plain}
use native.Mathlib.Omega.{arith}
use Rattle.cover_layouts.proofs.write_in.Goals as goal

pub returns-then-packing-eq1 : goal.returns-then-packing-eq1
returns-then-packing-eq1 c = made_asked c.if-packing-eq1.true c.write_packed.ensures

pub write_context-requires : goal.write_context-requires
write_context-requires c = (c.requires, begins_new c.begin.ensures (λ h. absurd (omega arith)))

pub returns : goal.returns
returns c = made_plain c.if-packing-eq1.false c.begin.ensures (omega arith) c.write_context.ensures
