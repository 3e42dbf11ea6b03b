use Rattle.rules.proofs.Parts.{chained_is}
use Rattle.rules.proofs.chained_parts.Goals as goal

pub returns : goal.returns
returns c =
    chained_is c.args.src.now c.args.at c.word_at-backs.ensures c.word_at-count.ensures c.saturating_sub-n.ensures c.word_at-aheads.ensures c.word_at.ensures
