use Prim.Native.Nat.{◌-◌}
use Rattle.cell_maps.proofs.RunLaws.{Seeking}
use Rattle.cell_maps.proofs.last_run.Given as goal

abbrev pub invariant-loop-lo : goal.invariant-loop-lo
invariant-loop-lo l = Seeking l.t l.m l.old l.lo l.hi

abbrev pub decreases-loop-lo : goal.decreases-loop-lo
decreases-loop-lo l = l.hi - l.lo
