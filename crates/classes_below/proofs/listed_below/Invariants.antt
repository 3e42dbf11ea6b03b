use Rattle.covered_between.specs.Stretches.{stretches}
use Rattle.covered_between.proofs.Stretching.{Left, is_below}
use Rattle.classes_below.proofs.listed_below.Given as goal

abbrev pub invariant-loop-i : goal.invariant-loop-i
invariant-loop-i l = Left (is_below l.n) (stretches l.src l.at) l.i
