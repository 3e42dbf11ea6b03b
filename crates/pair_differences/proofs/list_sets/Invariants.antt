use Rattle.pair_differences.proofs.Merging.{Merging}
use Prim.Native.Nat.{◌+◌}
use Rattle.pair_differences.proofs.list_sets.Given as goal

abbrev pub invariant-pairs : goal.invariant-pairs
invariant-pairs l = Merging l.left l.right l.l l.r l.g l.lsize l.rsize l.initial.out l.pos l.out l.at l.p l.m l.q l.n

abbrev pub decreases-pairs : goal.decreases-pairs
decreases-pairs l = l.m + l.n
