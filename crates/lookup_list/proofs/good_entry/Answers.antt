use Rattle.lookup_list.proofs.Readying.{entry_other, entry_ends}
use Rattle.lookup_list.proofs.good_entry.Goals as goal

pub returns-then-not-good_kind : goal.returns-then-not-good_kind
returns-then-not-good_kind c =
    entry_other c.args.list.now c.args.buffer.now c.args.at c.word_at.ensures.0 c.good_kind.ensures c.if-not-good_kind.true-raw

pub returns : goal.returns
returns c =
    entry_ends c.args.list.now c.args.buffer.now c.args.at c.word_at.ensures.0 c.good_kind.ensures c.if-not-good_kind.false-raw c.long_at.ensures.0 c.long_at-2.ensures.0
