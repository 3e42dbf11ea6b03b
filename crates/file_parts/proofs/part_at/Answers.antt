use Rattle.file_parts.proofs.Trailers.{part_ends, part_is}
use Rattle.file_parts.proofs.part_at.Goals as goal

pub part-requires : goal.part-requires
part-requires c =
    part_ends c.args.file.now c.args.at c.long_at.ensures c.long_at-2.ensures c.requires.1

pub returns : goal.returns
returns c =
    part_is c.args.file.now c.args.at c.long_at.ensures c.long_at-2.ensures c.part.ensures
