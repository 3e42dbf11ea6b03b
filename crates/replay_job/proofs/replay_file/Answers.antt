use mathlib.Core.Path.{◌≡◌}
use mathlib.Core.Bool.{true}
use native.Mathlib.Omega.{arith}
use Rattle.faults.specs.Reached.{refused, passed}
use Rattle.replay_job.specs.ReplayFile.{good_file}
use Rattle.replay_job.proofs.Files.{File, is_file, replay_faulty, replay_whole}
use Rattle.replay_job.proofs.replay_file.Goals as goal
use Rattle.replay_job.proofs.replay_file.Goals.{Else-not-good_file}

-- past the test the file is good
good : (c : Else-not-good_file) → good_file c.args.file.now ≡ true
good c = passed c.good_file.ensures c.if-not-good_file.false-raw

file : (c : Else-not-good_file) → File c.args.file.now
file c = is_file c.args.file.now (good c)

pub returns-then-not-good_file : goal.returns-then-not-good_file
returns-then-not-good_file c =
    replay_faulty c.args.file.now (refused c.good_file.ensures c.if-not-good_file.true-raw) c.refusing.ensures

pub overflow_sub-at : goal.overflow_sub-at
overflow_sub-at c = omega (arith, (file (goal.at.overflow_sub-at c).Else-not-good_file).long_enough)

pub part_at-requires : goal.part_at-requires
part_at-requires c = (omega (arith, (file (goal.at.part_at-requires c).Else-not-good_file).short), (file (goal.at.part_at-requires c).Else-not-good_file).list)

pub part_at-requires-2 : goal.part_at-requires-2
part_at-requires-2 c = (omega (arith, (file (goal.at.part_at-requires-2 c).Else-not-good_file).short), (file (goal.at.part_at-requires-2 c).Else-not-good_file).buffer)

pub part_at-requires-3 : goal.part_at-requires-3
part_at-requires-3 c = (omega (arith, (file (goal.at.part_at-requires-3 c).Else-not-good_file).short), (file (goal.at.part_at-requires-3 c).Else-not-good_file).trace)

pub returns : goal.returns
returns c =
    replay_whole c.args.file.now (good (goal.at.returns c).Else-not-good_file) c.part_at.ensures c.part_at-2.ensures c.part_at-3.ensures c.replay_all.ensures
