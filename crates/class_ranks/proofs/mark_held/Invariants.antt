use Rattle.ranked_maps.proofs.Marking.{Marking}
use Rattle.class_ranks.proofs.mark_held.Given as goal

abbrev pub invariant-loop-e : goal.invariant-loop-e
invariant-loop-e l = Marking l.initial.t l.t l.m l.list l.g l.e
