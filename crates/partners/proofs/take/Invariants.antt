use Rattle.partners.proofs.Chaining.{TakingIn}
use Rattle.partners.proofs.take.Given as goal

abbrev pub invariant-loop-i : goal.invariant-loop-i
invariant-loop-i l = TakingIn l.own l.m l.others l.n l.initial.heads l.initial.links l.at l.heads l.links l.i
