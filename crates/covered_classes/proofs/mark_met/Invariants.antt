use Rattle.covered_classes.proofs.Covering.{Covering}
use Rattle.covered_classes.proofs.mark_met.Given as goal

abbrev pub invariant-loop-j : goal.invariant-loop-j
invariant-loop-j l = Covering l.initial.t l.t l.noted l.n l.list l.len l.marks l.k l.j
