use Prim.Native.Nat.{◌+◌, ◌-◌}
use lib.ListN.{length}
use Rattle.fold_pairs.proofs.Laws.{Trying}
use Rattle.fold_pairs.proofs.lay.Given as goal

abbrev pub invariant-loop-n : goal.invariant-loop-n
invariant-loop-n l = Trying l.list l.initial.t l.t l.at l.n

abbrev pub decreases-loop-n : goal.decreases-loop-n
decreases-loop-n l = length l.initial.t + 1 - (l.at + l.n)
