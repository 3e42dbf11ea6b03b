use Rattle.ranked_maps.proofs.Ranks.{ranked_short, ranked_done}
use Rattle.ranked_maps.proofs.ranked_map.Goals as goal

pub returns-then-t-to : goal.returns-then-t-to
returns-then-t-to c = ranked_short c.requires c.args.zero c.if-t-to.true

pub returns : goal.returns
returns c = ranked_done c.requires c.if-t-to.false c.clear_bits.ensures c.put_listed.ensures c.args.zero c.put_zero.ensures c.count_marks-count.ensures
