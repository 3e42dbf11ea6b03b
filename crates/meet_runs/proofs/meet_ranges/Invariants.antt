use Prim.Native.Nat.{◌-◌}
use Rattle.noted_runs.proofs.Spans.{Ranging}
use Rattle.meet_runs.proofs.meet_ranges.Given as goal

abbrev pub invariant-loop-i : goal.invariant-loop-i
invariant-loop-i l = Ranging l.src l.at l.n l.glyphs l.initial.t l.to l.t l.e l.k l.i
