use Prim.Native.Nat.{◌-◌, ◌/◌}
use lib.ListN.{length}
use Rattle.noted_runs.proofs.Spans.{Spanning}
use Rattle.meet_runs.proofs.meet_span.Given as goal

abbrev pub invariant-loop-e : goal.invariant-loop-e
invariant-loop-e l = Spanning l.glyphs l.first l.last l.index l.initial.t l.t l.to l.x l.k l.e
