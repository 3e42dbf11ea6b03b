use Rattle.meet.proofs.Asking.{Asking}
use Rattle.meet.proofs.meet_entries.Given as goal

abbrev pub invariant-loop-e : goal.invariant-loop-e
invariant-loop-e l = Asking l.src l.at l.glyphs l.initial.t l.to l.t l.k l.e
