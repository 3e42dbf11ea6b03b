use Rattle.runs.proofs.Copying.{Copied}
use Rattle.runs.proofs.copy_words.Given as goal

abbrev pub invariant-loop-i : goal.invariant-loop-i
invariant-loop-i l = Copied l.src l.at l.n l.initial.out l.out l.i
