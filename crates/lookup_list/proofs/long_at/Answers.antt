use Rattle.lookup_list.proofs.Parts.{is_long}
use Rattle.lookup_list.proofs.long_at.Goals as goal

pub returns : goal.returns
returns c = is_long c.args.list.now c.args.at c.word_at.ensures c.word_at-2.ensures
