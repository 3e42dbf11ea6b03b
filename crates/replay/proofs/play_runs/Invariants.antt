use Prim.Native.Nat.{◌-◌}
use lib.ListN.{length}
use Rattle.replaying.specs.Listed.{lookups_of}
use Rattle.replay.proofs.Playing.{Playing}
use Rattle.replay.proofs.play_runs.Given as goal

abbrev pub invariant-loop-at : goal.invariant-loop-at
invariant-loop-at l = Playing (lookups_of l.list l.buffer) l.trace l.tally l.at

abbrev pub decreases-loop-at : goal.decreases-loop-at
decreases-loop-at l = length l.trace - l.at
