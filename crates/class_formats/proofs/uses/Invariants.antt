use Prim.Native.Nat.{◌-◌}
use Rattle.numbers.specs.Entries.{entries_in}
use Rattle.class_formats.proofs.Using.{UsingRows}
use Rattle.class_formats.proofs.uses.Given as goal

abbrev pub invariant-rows : goal.invariant-rows
invariant-rows l = UsingRows (entries_in l.t l.firsts) (entries_in l.t l.seconds) l.src l.size l.place l.n l.row l.p l.c
