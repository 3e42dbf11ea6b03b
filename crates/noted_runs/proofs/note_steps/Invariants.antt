use Rattle.noted_runs.proofs.Rows.{Stepping}
use Rattle.noted_runs.proofs.note_steps.Given as goal

abbrev pub invariant-loop-i : goal.invariant-loop-i
invariant-loop-i l = Stepping l.initial.t l.t l.to l.index l.new l.n l.i
