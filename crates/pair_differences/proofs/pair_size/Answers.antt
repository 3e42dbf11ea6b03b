use Rattle.value_differences.proofs.Values.{size_is}
use Rattle.pair_differences.proofs.pair_size.Goals as goal

pub returns : goal.returns
returns c =
    size_is _ c.word_at.ensures.0 c.field_count.ensures c.word_at-2.ensures.0 c.field_count-2.ensures
