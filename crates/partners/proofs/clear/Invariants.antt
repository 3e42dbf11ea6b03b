use Rattle.partners.proofs.Chaining.{Clearing}
use Rattle.partners.proofs.clear.Given as goal

abbrev pub invariant-loop-i : goal.invariant-loop-i
invariant-loop-i l = Clearing l.own l.m l.initial.heads l.heads l.i
