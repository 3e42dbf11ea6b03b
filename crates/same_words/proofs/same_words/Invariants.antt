use Rattle.same_words.proofs.Comparing.{Alike}
use Rattle.same_words.proofs.same_words.Given as goal

abbrev pub invariant-loop-i : goal.invariant-loop-i
invariant-loop-i l = Alike l.a l.at l.b l.from l.n l.i
