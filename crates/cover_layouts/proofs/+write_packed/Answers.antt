use Rattle.std.proofs.Common.{arith}
use Rattle.cover_layouts.proofs.Cut.{begins_new, made_packed}
use Rattle.cover_layouts.proofs.+write_packed.Goals as goal

pub write_context-requires : goal.write_context-requires
write_context-requires t c = (c.requires, begins_new c.begin.ensures (λ h. omega arith))

pub returns : goal.returns
returns t c = made_packed c.begin.ensures (omega arith) c.write_context.ensures
