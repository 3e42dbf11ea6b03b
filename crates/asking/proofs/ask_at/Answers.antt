use Rattle.asking.proofs.Answering.{past_list, past_string, listed_inside, listed_lookup, in_list, in_any}
use Rattle.asking.proofs.ask_at.Goals as goal

pub returns-then-list-lookup : goal.returns-then-list-lookup
returns-then-list-lookup c =
    (past_list c.args.list.now c.args.buffer.now c.args.string.now c.args.n c.args.lookup c.args.place c.if-list-lookup.true, tt)

pub returns-then-n-place : goal.returns-then-n-place
returns-then-n-place c =
    (past_string c.args.list.now c.args.buffer.now c.args.string.now c.args.n c.args.lookup c.args.place c.if-n-place.true, tt)

pub part-src-requires : goal.part-src-requires
part-src-requires c =
    listed_inside c.args.list.now c.args.buffer.now c.args.lookup c.if-list-lookup.false c.long_at.ensures.0 c.long_at-2.ensures.0 c.requires.0

pub ask_source-requires : goal.ask_source-requires
ask_source-requires c =
    (listed_lookup c.args.list.now c.args.buffer.now c.args.lookup c.if-list-lookup.false c.long_at.ensures.0 c.long_at-2.ensures.0 c.part-src.ensures c.word_at.ensures.0 c.requires.0, c.if-n-place.false, c.requires.1)

pub returns : goal.returns
returns c =
    (in_list c.args.list.now c.args.buffer.now c.args.lookup c.if-list-lookup.false c.long_at.ensures.0 c.long_at-2.ensures.0 c.part-src.ensures c.args.string.now c.args.n c.args.place c.word_at.ensures.0 c.ask_source.ensures, in_any c.ask_source.result c.if-list-lookup.false)
