use Prim.Native.Nat.{◌-◌}
use Rattle.rules.proofs.Within.{Below}
use Rattle.rules.proofs.indexes_below.Given as goal

abbrev pub invariant-loop-i : goal.invariant-loop-i
invariant-loop-i l = Below l.count l.src l.at l.n l.i
