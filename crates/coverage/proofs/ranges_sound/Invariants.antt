use Prim.Native.Nat.{◌-◌}
use Rattle.coverage.proofs.Checking.{Checking}
use Rattle.coverage.proofs.ranges_sound.Given as goal

abbrev pub invariant-loop-i : goal.invariant-loop-i
invariant-loop-i l = Checking l.src l.at l.n l.low l.before l.i
