use Rattle.covered_classes.proofs.Covering.{Passing}
use Rattle.covered_classes.proofs.pass_below.Given as goal

abbrev pub invariant-loop-k : goal.invariant-loop-k
invariant-loop-k l = Passing l.t l.list l.n l.from l.new l.k
