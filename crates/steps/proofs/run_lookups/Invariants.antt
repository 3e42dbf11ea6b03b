use Rattle.replaying.specs.Listed.{lookups_of}
use Rattle.steps.proofs.Sweeping.{Ordering}
use Rattle.steps.proofs.run_lookups.Given as goal

abbrev pub invariant-loop-lookup : goal.invariant-loop-lookup
invariant-loop-lookup l = Ordering (lookups_of l.list l.buffer) l.many l.n l.initial.string l.string l.lookup
