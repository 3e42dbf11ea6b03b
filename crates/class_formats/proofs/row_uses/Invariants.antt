use Prim.Native.Nat.{◌-◌}
use Rattle.numbers.specs.Entries.{entries_in}
use Rattle.class_formats.proofs.Using.{UsingCells}
use Rattle.class_formats.proofs.row_uses.Given as goal

abbrev pub invariant-cells : goal.invariant-cells
invariant-cells l = UsingCells (entries_in l.t l.seconds) l.src l.size l.place l.p l.n l.cell l.c
