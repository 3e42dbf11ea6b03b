use Prim.Native.Nat.{◌-◌, ◌/◌, ◌≤◌}
use lib.ListN.{length}
use Rattle.cell_maps.specs.Runs.{Spread}
use Rattle.fold_glyphs.proofs.spread_runs.Given as goal

abbrev pub invariant-loop-k : goal.invariant-loop-k
invariant-loop-k l = (l.k ≤ length l.list / 6) × Spread l.list l.initial.t l.t l.m l.k
