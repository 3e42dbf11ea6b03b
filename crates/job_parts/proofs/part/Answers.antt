use Rattle.job_parts.proofs.Parts.{part_ends, part_bytes}
use Rattle.job_parts.proofs.part.Goals as goal

pub slice_bounds-result-end : goal.slice_bounds-result-end
slice_bounds-result-end c =
    part_ends c.args.file.now c.args.at c.long_at-start.ensures c.long_at.ensures c.requires.1

pub returns : goal.returns
returns c =
    part_bytes c.args.file.now c.args.at c.long_at-start.ensures c.long_at.ensures
