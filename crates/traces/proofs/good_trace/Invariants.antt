use Prim.Native.Nat.{◌-◌}
use lib.ListN.{length}
use Rattle.traces.proofs.Tracing.{Tracing}
use Rattle.traces.proofs.good_trace.Given as goal

abbrev pub invariant-loop-at : goal.invariant-loop-at
invariant-loop-at l = Tracing l.trace l.at

abbrev pub decreases-loop-at : goal.decreases-loop-at
decreases-loop-at l = length l.trace - l.at
