use Rattle.partners.proofs.Chaining.{LinkingIn}
use Rattle.partners.proofs.link.Given as goal

abbrev pub invariant-loop-j : goal.invariant-loop-j
invariant-loop-j l = LinkingIn l.own l.m l.others l.n l.initial.heads l.initial.links l.heads l.links l.j
