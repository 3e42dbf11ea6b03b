use Rattle.member_steps.proofs.Most.{InSets}
use Rattle.rule_steps.proofs.most_in_sets.Given as goal

abbrev pub invariant-loop-i : goal.invariant-loop-i
invariant-loop-i l = InSets l.chained l.src l.steps l.slot l.n l.top l.i l.marks
