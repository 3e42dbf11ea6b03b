use Rattle.class_places.specs.Places.{slots_near}
use Rattle.remade_classes.specs.Tail.{tail_many}
use Rattle.class_tail.proofs.Laying.{tables_laid}
use native.Mathlib.Omega.{arith}
use Rattle.class_tail.proofs.write_tables.Goals as goal

pub overflow_sub-n : goal.overflow_sub-n
overflow_sub-n c = omega (arith, c.slots_at.ensures, slots_near c.args.tail.chained)

pub settle_slots-requires : goal.settle_slots-requires
settle_slots-requires c =
    (omega (arith, c.requires.1.places.before, c.requires.1.places.room, c.note_tables-end.ensures.same, c.slots_at.ensures, slots_near c.args.tail.chained), omega (arith, c.requires.1.low))

pub returns : goal.returns
returns c =
    tables_laid c.args.tail.chained c.args.src.now c.args.glyphs.now c.args.tail c.requires.1 c.note_tables-end.ensures (omega (arith, c.slots_at.ensures, tail_many c.args.tail.chained c.args.src.now c.args.glyphs.now c.args.tail)) c.settle_slots.ensures
