use Rattle.numbers.specs.Entries.{entries_in}
use Rattle.numbers.proofs.Numbers.{Recording}
use Rattle.lookup_records.proofs.write_records.Given as goal

abbrev pub invariant-loop-i : goal.invariant-loop-i
invariant-loop-i l = Recording (entries_in l.t l.m) l.src l.at l.n l.initial.area l.pos l.area l.p l.i
