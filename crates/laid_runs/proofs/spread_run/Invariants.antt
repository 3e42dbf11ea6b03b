use Prim.Native.Nat.{◌-◌}
use Rattle.cell_maps.proofs.RunLaws.{Spreading}
use Rattle.laid_runs.proofs.spread_run.Given as goal

abbrev pub invariant-loop-i : goal.invariant-loop-i
invariant-loop-i l = Spreading l.list l.initial.t l.t l.m l.k l.old l.new l.i
