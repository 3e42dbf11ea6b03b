use Rattle.records.proofs.Within.{covers_plain}
use Rattle.records.proofs.plain_covers_within.Goals as goal

pub returns : goal.returns
returns c =
    covers_plain c.args.src.now c.word_at-n.ensures.0 c.word_at.ensures.0 c.indexes_below.ensures
