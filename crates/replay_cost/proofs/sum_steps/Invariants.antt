use Prim.Native.Nat.{◌-◌}
use lib.ListN.{length}
use Rattle.replay_cost.proofs.Depths.{Summing}
use Rattle.replay_cost.proofs.sum_steps.Given as goal

abbrev pub invariant-loop-i : goal.invariant-loop-i
invariant-loop-i l = Summing l.steps l.sum l.i
