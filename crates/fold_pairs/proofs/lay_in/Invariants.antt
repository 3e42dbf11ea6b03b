use Rattle.fold_pairs.proofs.Laws.{Laying}
use Rattle.fold_pairs.proofs.lay_in.Given as goal

abbrev pub invariant-loop-i : goal.invariant-loop-i
invariant-loop-i l = Laying l.list l.initial.t l.t l.m l.i
