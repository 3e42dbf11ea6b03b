use Rattle.listing.specs.Listed.{Through}
use Rattle.rule_differences.specs.Ranked.{both_at}
use Rattle.rule_differences.proofs.list_ranks.Given as goal

abbrev pub invariant-loop-i : goal.invariant-loop-i
invariant-loop-i l = Through (both_at l.lefts l.m l.rights l.n l.g) l.end 24 l.initial.out l.pos l.out l.at l.i
