use Rattle.handing.proofs.Moved.{Copying}
use Rattle.handing.proofs.copy.Given as goal

abbrev pub invariant-loop-i : goal.invariant-loop-i
invariant-loop-i l = Copying l.area l.from l.n l.initial.out l.to l.out l.i
