use Rattle.matching.proofs.Rows.{chained_covers_lem}
use Rattle.matching.proofs.chained_covers.Goals as goal

pub returns : goal.returns
returns c = chained_covers_lem c.args.src.now c.word_at-backs.ensures c.word_at-count.ensures c.word_at-aheads.ensures c.word_at.ensures
