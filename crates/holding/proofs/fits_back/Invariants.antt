use Rattle.holding.proofs.Holding.{Away}
use Rattle.holding.proofs.fits_back.Given as goal

abbrev pub invariant-loop-i : goal.invariant-loop-i
invariant-loop-i l = Away l.src l.q l.string l.n l.place l.i
