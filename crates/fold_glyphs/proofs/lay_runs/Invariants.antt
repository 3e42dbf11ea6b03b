use Prim.Native.Nat.{◌-◌}
use Rattle.cell_maps.proofs.RunLaws.{RunLaying}
use Rattle.fold_glyphs.proofs.lay_runs.Given as goal

abbrev pub invariant-loop-k : goal.invariant-loop-k
invariant-loop-k l = RunLaying l.list l.initial.t l.t l.at l.k
