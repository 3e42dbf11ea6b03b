use Prim.Native.Nat.{◌-◌, ◌/◌}
use lib.ListN.{length}
use Rattle.map_runs.proofs.Runs.{Rising}
use Rattle.map_runs.proofs.good_runs.Given as goal

abbrev pub invariant-loop-i : goal.invariant-loop-i
invariant-loop-i l = Rising l.m l.old l.new l.i
