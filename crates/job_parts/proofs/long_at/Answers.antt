use Rattle.job_parts.proofs.Parts.{is_long}
use Rattle.job_parts.proofs.long_at.Goals as goal

pub returns : goal.returns
returns c =
    is_long c.args.file.now c.args.at c.word_at.ensures c.word_at-2.ensures
