use Rattle.single_tables.proofs.Laying.{Listing}
use Rattle.single_tables.proofs.put_substitutes.Given as goal

abbrev pub invariant-loop-i : goal.invariant-loop-i
invariant-loop-i l = Listing l.t l.at l.n l.initial.area l.to l.area l.p l.i
