use Rattle.asking.proofs.Answering.{listed_inside, listed_word}
use Rattle.asking.proofs.source_word.Goals as goal

pub part-src-requires : goal.part-src-requires
part-src-requires c =
    listed_inside c.args.list.now c.args.buffer.now c.args.lookup c.requires.1 c.long_at.ensures.0 c.long_at-2.ensures.0 c.requires.0

pub returns : goal.returns
returns c =
    listed_word c.args.list.now c.args.buffer.now c.args.lookup c.requires.1 c.long_at.ensures.0 c.long_at-2.ensures.0 c.part-src.ensures c.args.at c.word_at.ensures
