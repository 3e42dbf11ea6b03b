use Prim.Native.Nat.{◌-◌, ◌/◌}
use mathlib.Core.Path.{◌≡◌}
use lib.ListN.{length}
use Rattle.replay_cost.proofs.Depths.{Filling}
use Rattle.replay_cost.proofs.level.Given as goal

abbrev pub invariant-loop-lookup : goal.invariant-loop-lookup
invariant-loop-lookup l = (l.many ≡ length l.list / 10) × Filling l.list l.buffer l.steps l.initial.next l.next l.many l.lookup
