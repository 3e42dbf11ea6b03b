use Rattle.records.proofs.Within.{covers_chained}
use Rattle.records.proofs.chained_covers_within.Goals as goal

pub returns : goal.returns
returns c =
    covers_chained c.args.src.now c.word_at.ensures.0 c.word_at-n.ensures.0 c.word_at-2.ensures.0 c.word_at-3.ensures.0 c.indexes_below.ensures
