use Rattle.cover_parts.proofs.Parts.{plain_is}
use Rattle.cover_parts.proofs.plain_parts.Goals as goal

pub returns : goal.returns
returns c =
    plain_is c.args.src.now c.requires c.word_at-n.ensures c.word_at.ensures
