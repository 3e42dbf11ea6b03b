use Prim.Native.Nat.{◌-◌}
use Rattle.lookup_list.proofs.Readying.{Listing}
use Rattle.lookup_list.proofs.good_list.Given as goal

abbrev pub invariant-loop-k : goal.invariant-loop-k
invariant-loop-k l = Listing l.list l.buffer l.many l.k
