use Prim.Native.Nat.{◌-◌}
use Rattle.replay_cost.proofs.Depths.{Levelled}
use Rattle.replay_cost.proofs.levels.Given as goal

abbrev pub invariant-loop-i : goal.invariant-loop-i
invariant-loop-i l = Levelled l.list l.buffer l.initial.here l.initial.there l.here l.there l.i
