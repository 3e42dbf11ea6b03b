use Rattle.std.proofs.Common.{◌+◌, ◌*◌}
use Rattle.replaying.specs.Listed.{lookups_of}
use Rattle.lookup_list.specs.Ready.{source_at}
use Rattle.steps.proofs.Stepping.{Running}
use Rattle.steps.proofs.+lookup_step_record_step.Given as goal

abbrev pub decreases-lookup_step : goal.decreases-lookup_step
decreases-lookup_step l = 2 * l.depth

abbrev pub decreases-record_step : goal.decreases-record_step
decreases-record_step l = 2 * l.depth + 1

abbrev pub invariant-record_step-loop-i : goal.invariant-record_step-loop-i
invariant-record_step-loop-i l = Running (lookups_of l.list l.buffer) (source_at l.list l.buffer l.owner) l.initial.string l.n l.records.at l.records.len l.place l.depth l.string l.i
