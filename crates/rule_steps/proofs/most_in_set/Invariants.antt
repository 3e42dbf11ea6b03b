use Rattle.member_steps.proofs.Most.{InSet}
use Rattle.rule_steps.proofs.most_in_set.Given as goal

abbrev pub invariant-loop-i : goal.invariant-loop-i
invariant-loop-i l = InSet l.chained l.src l.steps l.set l.n l.most l.top l.i l.marks
