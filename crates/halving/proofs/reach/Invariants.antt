use Prim.Native.Nat.{◌-◌}
use Rattle.halving.proofs.Searching.{Searching}
use Rattle.halving.proofs.reach.Given as goal

abbrev pub invariant-loop-lo : goal.invariant-loop-lo
invariant-loop-lo l = Searching l.s l.at l.step l.n l.from l.value l.lo l.hi

abbrev pub decreases-loop-lo : goal.decreases-loop-lo
decreases-loop-lo l = l.hi - l.lo
