use Rattle.ranked_maps.proofs.Mapping.{listed_few, marks_direct, zero_direct, listed_done}
use Rattle.class_ranks.proofs.direct_map.Goals as goal

pub returns-then-m-eq0 : goal.returns-then-m-eq0
returns-then-m-eq0 c = listed_few c.held_map-m.ensures c.args.zero c.if-m-eq0.true

pub mark_zero-requires : goal.mark_zero-requires
mark_zero-requires c = marks_direct c.held_map-m.ensures c.if-m-eq0.false

pub rank-count-requires : goal.rank-count-requires
rank-count-requires c = zero_direct c.held_map-m.ensures c.if-m-eq0.false c.args.zero c.mark_zero.ensures

pub returns : goal.returns
returns c = listed_done c.held_map-m.ensures c.if-m-eq0.false c.args.zero c.mark_zero.ensures c.rank-count.ensures
