use mathlib.Core.Path.{◌≡◌}
use mathlib.Core.Bool.{true}
use native.Mathlib.Omega.{arith}
use Rattle.meaning.specs.Job.{good_job}
use Rattle.faults.specs.Reached.{refused, passed}
use Rattle.job_parts.proofs.Parts.{is_job}
use Rattle.job.proofs.Runs.{job_faulty, job_runs}
use Rattle.job.proofs.run.Goals as goal
use Rattle.job.proofs.run.Goals.{Else-not-good_job}

-- past the test the job is good
good : (c : Else-not-good_job) → good_job c.args.file.now ≡ true
good c = passed c.good_job.ensures c.if-not-good_job.false-raw

pub returns-then-not-good_job : goal.returns-then-not-good_job
returns-then-not-good_job c =
    job_faulty c.args.file.now c.args.out.now (refused c.good_job.ensures c.if-not-good_job.true-raw)

pub overflow_sub-file : goal.overflow_sub-file
overflow_sub-file c = omega (arith, (is_job c.args.file.now (good (goal.at.overflow_sub-file c).Else-not-good_job)).long_enough)

pub form_of-requires : goal.form_of-requires
form_of-requires c =
    (is_job c.args.file.now (good (goal.at.form_of-requires c).Else-not-good_job)).long_enough

pub table_part-requires : goal.table_part-requires
table_part-requires c = good (goal.at.table_part-requires c).Else-not-good_job

pub glyph_part-requires : goal.glyph_part-requires
glyph_part-requires c = good (goal.at.glyph_part-requires c).Else-not-good_job

pub lookup_part-requires : goal.lookup_part-requires
lookup_part-requires c = good (goal.at.lookup_part-requires c).Else-not-good_job

pub returns : goal.returns
returns c =
    job_runs c.args.file.now c.args.out.now (good (goal.at.returns c).Else-not-good_job) c.word_at.ensures.0 c.form_of.ensures c.table_part.ensures c.glyph_part.ensures c.lookup_part.ensures c.subset.ensures
