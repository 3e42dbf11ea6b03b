use Rattle.meaning.specs.Parts.{coverage}
use Rattle.covered_between.specs.Stretches.{stretches}
use Rattle.covered_between.proofs.Stretching.{Left, clear}
use Rattle.classes_below.proofs.covered_below.Given as goal

abbrev pub invariant-loop-i : goal.invariant-loop-i
invariant-loop-i l = Left (clear l.n (coverage l.src l.cover)) (stretches l.src l.at) l.i
