use Rattle.file_parts.proofs.Trailers.{ends_says}
use Rattle.file_parts.proofs.ends_by.Goals as goal

pub returns : goal.returns
returns c =
    ends_says c.args.file.now c.args.at c.long_at.ensures c.long_at-2.ensures c.args.end
