use Prim.Native.Nat.{◌-◌}
use Rattle.numbers.specs.Entries.{entries_in}
use Rattle.class_cells.proofs.Writing.{Cells}
use Rattle.class_cells.proofs.write_row.Given as goal

abbrev pub invariant-loop-c : goal.invariant-loop-c
invariant-loop-c l = Cells (entries_in l.t l.seconds) l.src l.size l.places l.p l.n l.initial.area l.pos l.area l.q l.cell l.c
