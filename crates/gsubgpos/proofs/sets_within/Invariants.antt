use Rattle.gsubgpos.proofs.Within.{InSets, InRules}
use Rattle.gsubgpos.proofs.sets_within.Given as goal

abbrev pub invariant-loop-k : goal.invariant-loop-k
invariant-loop-k l = InRules l.chained l.src l.slot l.n l.initial.marks l.marks l.within l.i l.set l.rules l.k

abbrev pub invariant-sets : goal.invariant-sets
invariant-sets l = InSets l.chained l.src l.slot l.n l.initial.marks l.marks l.within l.i
