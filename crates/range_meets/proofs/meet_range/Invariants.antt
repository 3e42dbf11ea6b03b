use Rattle.range_meets.proofs.Ranges.{Noting}
use Rattle.range_meets.proofs.meet_range.Given as goal

abbrev pub invariant-loop-k : goal.invariant-loop-k
invariant-loop-k l = Noting l.glyphs l.from l.first l.last l.index l.initial.t l.to l.t l.k
