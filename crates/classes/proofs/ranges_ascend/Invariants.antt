use Rattle.classes.proofs.Checking.{Ascending}
use Rattle.classes.proofs.ranges_ascend.Given as goal

abbrev pub invariant-loop-i : goal.invariant-loop-i
invariant-loop-i l = Ascending l.src l.at l.n l.low l.i
