use Prim.Native.Nat.{◌-◌}
use Rattle.replaying.specs.Listed.{lookups_of}
use Rattle.steps.proofs.Sweeping.{Sweeping}
use Rattle.steps.proofs.sweep_lookup.Given as goal

abbrev pub invariant-loop-place : goal.invariant-loop-place
invariant-loop-place l = Sweeping (lookups_of l.list l.buffer) l.lookup l.n l.initial.string l.string l.place

abbrev pub decreases-loop-place : goal.decreases-loop-place
decreases-loop-place l = l.n - l.place
