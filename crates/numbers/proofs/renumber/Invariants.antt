use Rattle.meaning.specs.Words.{find}
use Rattle.numbers.specs.Entries.{entries_in}
use Rattle.numbers.proofs.Numbers.{Renumbering}
use Rattle.numbers.proofs.renumber.Given as goal

abbrev pub invariant-loop-i : goal.invariant-loop-i
invariant-loop-i l = Renumbering (find (entries_in l.t l.m)) l.src l.at l.n l.initial.area l.pos l.area l.i
