use Rattle.std.proofs.Common.{◌-◌}
use Rattle.single_pairs.proofs.Keeping.{Keeping}
use Rattle.single_pairs.proofs.keep_pairs.Given as goal

abbrev pub invariant-loop-i : goal.invariant-loop-i
invariant-loop-i l = Keeping l.src l.initial.t l.m l.at l.n l.t l.k l.same l.i
