use mathlib.Core.Path.{◌≡◌}
use Rattle.cut.proofs.cut_own.Given as goal

abbrev pub invariant-loop-size : goal.invariant-loop-size
invariant-loop-size l = l.out ≡ l.initial.out
