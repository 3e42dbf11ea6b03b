use Rattle.member_sets.specs.Dead.{dead_none}
use Rattle.class_places.specs.Places.{slots_near}
use native.Mathlib.Omega.{arith}
use Rattle.class_layouts.proofs.write_left.Goals as goal

pub overflow_sub-slots : goal.overflow_sub-slots
overflow_sub-slots c = omega (arith, c.slots_at-slots.ensures, slots_near c.args.prepared.tail.chained)

pub crowded-requires : goal.crowded-requires
crowded-requires c = (omega (arith, c.slots_at-slots.ensures, slots_near c.args.prepared.tail.chained), c.word_at.ensures.1)

pub write_context-requires : goal.write_context-requires
write_context-requires c = (c.requires, dead_none 1)
