use Prim.Native.Nat.{◌-◌}
use Rattle.listed_meets.proofs.Answered.{Listing}
use Rattle.listed_meets.proofs.meets_list.Given as goal

abbrev pub invariant-loop-i : goal.invariant-loop-i
invariant-loop-i l = Listing l.t l.m l.src l.at l.n l.i
