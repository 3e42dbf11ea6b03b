use Rattle.ranked_maps.proofs.Marking.{Ranking}
use Rattle.class_ranks.proofs.rank.Given as goal

abbrev pub invariant-loop-class : goal.invariant-loop-class
invariant-loop-class l = Ranking l.initial.t l.t l.m l.count l.class
