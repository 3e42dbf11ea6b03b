use Rattle.meaning.specs.Words.{words}
use Rattle.matching.proofs.Fitting.{Choosing}
use Rattle.matching.proofs.first_rule.Given as goal

abbrev pub invariant-loop-i : goal.invariant-loop-i
invariant-loop-i l = Choosing l.chained l.src l.how l.set (words l.string 0 l.n) l.place l.count l.i
