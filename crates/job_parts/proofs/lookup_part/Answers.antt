use native.Mathlib.Omega.{arith}
use Rattle.meaning.specs.Job.{trailer, lookup_part}
use Rattle.job_parts.proofs.Parts.{is_job}
use Rattle.job_parts.proofs.lookup_part.Goals as goal

pub overflow_sub-file : goal.overflow_sub-file
overflow_sub-file c =
    omega (arith, (is_job c.args.file.now c.requires).long_enough)

pub part-requires : goal.part-requires
part-requires c =
    let j = is_job c.args.file.now c.requires in
    (omega (arith, j.long_enough, j.short), j.lookups)

pub returns : goal.returns
unfolding lookup_part trailer
returns c = c.part.ensures
