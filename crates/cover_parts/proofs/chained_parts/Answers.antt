use Rattle.cover_parts.proofs.Parts.{chained_is}
use Rattle.cover_parts.proofs.chained_parts.Goals as goal

pub returns : goal.returns
returns c =
    chained_is c.args.src.now c.requires c.word_at-backs.ensures c.word_at-inputs.ensures c.word_at-aheads.ensures c.word_at.ensures
