use Rattle.cover_parts.proofs.Rows.{slot_over, slot_few, slot_first, slot_again}
use Rattle.cover_slots.proofs.write_slot.Goals as goal

pub returns-then-area-places : goal.returns-then-area-places
returns-then-area-places c = slot_over c.requires c.if-area-places.true c.pass_over.ensures

pub again-at-requires : goal.again-at-requires
again-at-requires c = (slot_few c.requires c.if-area-places.false, slot_first c.requires c.if-area-places.false)

pub returns-then-at-ne0 : goal.returns-then-at-ne0
returns-then-at-ne0 c = slot_again c.requires c.if-area-places.false c.again-at.ensures c.if-at-ne0.true c.put.ensures.1
