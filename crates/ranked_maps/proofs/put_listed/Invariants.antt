use Rattle.ranked_maps.proofs.Ranks.{Putting}
use Rattle.ranked_maps.proofs.put_listed.Given as goal

abbrev pub invariant-loop-e : goal.invariant-loop-e
invariant-loop-e l = Putting l.initial.t l.t l.list l.n l.marks l.e
