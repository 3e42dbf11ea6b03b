use Rattle.matching.proofs.Rows.{plain_covers_lem}
use Rattle.matching.proofs.plain_covers.Goals as goal

pub returns : goal.returns
returns c = plain_covers_lem c.args.src.now c.word_at-count.ensures c.word_at.ensures
