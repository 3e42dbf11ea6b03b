use Rattle.member_steps.proofs.Sums.{Adding}
use Rattle.member_steps.proofs.record_steps.Given as goal

abbrev pub invariant-loop-i : goal.invariant-loop-i
invariant-loop-i l = Adding l.steps l.src l.at l.n l.sum l.i
