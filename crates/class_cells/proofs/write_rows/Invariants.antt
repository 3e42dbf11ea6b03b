use Prim.Native.Nat.{◌-◌}
use Rattle.numbers.specs.Entries.{entries_in}
use Rattle.class_cells.proofs.Writing.{Rows}
use Rattle.class_cells.proofs.write_rows.Given as goal

abbrev pub invariant-loop-c : goal.invariant-loop-c
invariant-loop-c l = Rows (entries_in l.t l.firsts) (entries_in l.t l.seconds) l.src l.size l.places l.n l.row l.initial.area l.pos l.area l.q l.p l.c
