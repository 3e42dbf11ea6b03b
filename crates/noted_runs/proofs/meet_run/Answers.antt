use native.Mathlib.Omega.{arith}
use Rattle.noted_runs.proofs.Spans.{run_more, run_asks, run_met}
use Rattle.noted_runs.proofs.meet_run.Goals as goal

pub overflow_add-new : goal.overflow_add-new
overflow_add-new c =
    omega (arith, run_more c.requires c.run_at-run.ensures c.max-from.ensures c.min-next.ensures, run_asks c.requires c.run_at-run.ensures c.max-from.ensures c.min-next.ensures)

pub overflow_add-index : goal.overflow_add-index
overflow_add-index c =
    omega (arith, run_more c.requires c.run_at-run.ensures c.max-from.ensures c.min-next.ensures, run_asks c.requires c.run_at-run.ensures c.max-from.ensures c.min-next.ensures)

pub overflow_sub-next : goal.overflow_sub-next
overflow_sub-next c =
    omega (arith, run_more c.requires c.run_at-run.ensures c.max-from.ensures c.min-next.ensures, run_asks c.requires c.run_at-run.ensures c.max-from.ensures c.min-next.ensures)

pub note_steps-requires : goal.note_steps-requires
note_steps-requires c =
    run_asks c.requires c.run_at-run.ensures c.max-from.ensures c.min-next.ensures

pub overflow_sub-result : goal.overflow_sub-result
overflow_sub-result c =
    omega (arith, run_more c.requires c.run_at-run.ensures c.max-from.ensures c.min-next.ensures, run_asks c.requires c.run_at-run.ensures c.max-from.ensures c.min-next.ensures)

pub returns : goal.returns
returns c =
    run_met c.requires c.run_at-run.ensures c.max-from.ensures c.min-next.ensures c.note_steps.ensures
