use Rattle.ranked_maps.proofs.Mapping.{held_near, held_short, held_ready, held_done}
use native.Mathlib.Omega.{arith}
use Rattle.class_ranks.proofs.held_map.Goals as goal

pub overflow_add-to : goal.overflow_add-to
overflow_add-to c = omega (arith, held_near c.requires c.power.ensures)

pub returns-then-t-to : goal.returns-then-t-to
returns-then-t-to c = held_short c.requires c.power.ensures c.if-t-to.true

pub mark_held-requires : goal.mark_held-requires
mark_held-requires c = held_ready c.requires c.power.ensures c.if-t-to.false c.clear.ensures

pub returns : goal.returns
returns c = held_done c.requires c.power.ensures c.if-t-to.false c.clear.ensures c.mark_held.ensures
