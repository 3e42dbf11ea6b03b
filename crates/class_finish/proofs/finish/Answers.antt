use Rattle.known_blocks.specs.Book.{packs}
use Rattle.class_places.specs.Places.{slots_near}
use Rattle.class_finish.proofs.Finishing.{tail_places, finish_table}
use native.Mathlib.Omega.{arith}
use Rattle.class_finish.proofs.finish.Goals as goal

pub settle_slots-requires : goal.settle_slots-requires
settle_slots-requires c =
    (omega (arith, c.requires.0.few, c.requires.0.start, c.requires.0.room, c.slots_at-at.ensures), omega (arith, c.requires.0.few, c.requires.0.low, c.slots_at-at.ensures, slots_near c.args.tail.chained))

pub write_tail-end-requires : goal.write_tail-end-requires
write_tail-end-requires c =
    (c.requires.0.tail_in, tail_places (packs c.args.book.now) c.requires.0 c.slots_at-at.ensures c.settle_slots.ensures c.put.ensures.1, c.requires.1)

pub overflow_sub-at : goal.overflow_sub-at
overflow_sub-at c = omega (arith, c.slots_at-at.ensures, slots_near c.args.tail.chained)

pub returns : goal.returns
returns c = finish_table (packs c.args.book.now) c.requires.0 c.slots_at-at.ensures c.settle_slots.ensures c.put.ensures.1 c.write_tail-end.ensures c.put-2.ensures.1
