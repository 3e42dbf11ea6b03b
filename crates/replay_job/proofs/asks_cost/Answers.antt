use native.Mathlib.Omega.{arith}
use Rattle.faults.specs.Reached.{refused, passed}
use Rattle.replay_job.proofs.Files.{is_file, cost_faulty, cost_asked}
use Rattle.replay_job.proofs.asks_cost.Goals as goal

pub returns-then-not-good_file : goal.returns-then-not-good_file
returns-then-not-good_file c =
    cost_faulty c.args.file.now (refused c.good_file.ensures c.if-not-good_file.true-raw)

pub overflow_sub-file : goal.overflow_sub-file
overflow_sub-file c =
    omega (arith, (is_file c.args.file.now (passed c.good_file.ensures c.if-not-good_file.false-raw)).long_enough)

pub long_at-requires : goal.long_at-requires
long_at-requires c =
    omega (arith, (is_file c.args.file.now (passed c.good_file.ensures c.if-not-good_file.false-raw)).short)

pub returns : goal.returns
returns c =
    cost_asked c.args.file.now (passed c.good_file.ensures c.if-not-good_file.false-raw) c.long_at.ensures.0
