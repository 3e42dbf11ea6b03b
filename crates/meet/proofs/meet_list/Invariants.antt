use Rattle.range_meets.proofs.Lists.{Listing}
use Rattle.meet.proofs.meet_list.Given as goal

abbrev pub invariant-loop-i : goal.invariant-loop-i
invariant-loop-i l = Listing l.src l.at l.n l.m l.initial.t l.to l.t l.k l.i
