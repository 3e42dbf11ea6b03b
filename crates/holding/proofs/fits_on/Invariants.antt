use Rattle.holding.proofs.Holding.{Onward}
use Rattle.holding.proofs.fits_on.Given as goal

abbrev pub invariant-loop-i : goal.invariant-loop-i
invariant-loop-i l = Onward l.src l.q l.string l.n l.place l.i
