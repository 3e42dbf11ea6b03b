use Rattle.rules.proofs.Parts.{plain_is}
use Rattle.rules.proofs.plain_parts.Goals as goal

pub returns : goal.returns
returns c =
    plain_is c.args.src.now c.args.at c.word_at-count.ensures c.saturating_sub-n.ensures c.word_at.ensures
