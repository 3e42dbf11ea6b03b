use mathlib.Core.Path.{◌≡◌}
use mathlib.Core.Bool.{true}
use Rattle.faults.specs.Reached.{refused, passed}
use Rattle.compare_file.specs.CompareFile.{good_file}
use Rattle.compare_job.proofs.Answering.{faulty, compared}
use Rattle.compare_job.proofs.compare_parts.Goals as goal
use Rattle.compare_job.proofs.compare_parts.Goals.{Else-not-good_file}

-- past the test the file is good
good : (c : Else-not-good_file) → good_file c.args.file.now ≡ true
good c = passed c.good_file.ensures c.if-not-good_file.false-raw

pub returns-then-not-good_file : goal.returns-then-not-good_file
returns-then-not-good_file c =
    faulty c.args.file.now c.args.list.now (refused c.good_file.ensures c.if-not-good_file.true-raw)

pub kind_of-requires : goal.kind_of-requires
kind_of-requires c = good (goal.at.kind_of-requires c).Else-not-good_file

pub left_of-requires : goal.left_of-requires
left_of-requires c = good (goal.at.left_of-requires c).Else-not-good_file

pub right_of-requires : goal.right_of-requires
right_of-requires c = good (goal.at.right_of-requires c).Else-not-good_file

pub returns : goal.returns
returns c =
    compared c.args.file.now c.args.list.now (good (goal.at.returns c).Else-not-good_file) c.compare-a.result c.kind_of.ensures c.left_of.ensures c.right_of.ensures c.compare-a.ensures c.number_of.ensures c.length_of.ensures
