use mathlib.Core.Path.{ap}
use native.Mathlib.Omega.{arith}
use Rattle.replaying.specs.Cost.{Cost}
use Rattle.replay_job.proofs.Files.{is_file, steps_told}
use Rattle.replay_job.proofs.file_steps.Goals as goal

pub overflow_sub-at : goal.overflow_sub-at
overflow_sub-at c = omega (arith, (is_file c.args.file.now c.requires).long_enough)

pub part_at-requires : goal.part_at-requires
part_at-requires c =
    let f = is_file c.args.file.now c.requires in
    (omega (arith, f.short), f.list)

pub part_at-requires-2 : goal.part_at-requires-2
part_at-requires-2 c =
    let f = is_file c.args.file.now c.requires in
    (omega (arith, f.short), f.buffer)

pub returns : goal.returns
returns c =
    steps_told c.args.file.now c.part_at.ensures c.part_at-2.ensures (ap (λ (x : Cost). x.steps) c.replay_cost-c.ensures)
