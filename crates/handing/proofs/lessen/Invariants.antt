use Rattle.handing.proofs.Moved.{Lessening}
use Rattle.handing.proofs.lessen.Given as goal

abbrev pub invariant-loop-i : goal.invariant-loop-i
invariant-loop-i l = Lessening l.d l.at l.n l.initial.area l.area l.i
