use Rattle.cover_parts.proofs.Rows.{slot_gone, slot_short, slot_placing, slot_written}
use Rattle.kept_slots.proofs.write_left.Goals as goal

pub returns-then-k-eq0 : goal.returns-then-k-eq0
returns-then-k-eq0 c =
    slot_gone c.requires.0 c.requires.1 c.meet-k.ensures c.if-k-eq0.true

pub returns-then-area-q : goal.returns-then-area-q
returns-then-area-q c =
    slot_short c.requires.0 c.requires.1 c.meet-k.ensures c.if-k-eq0.false c.write_cover-q.ensures c.if-area-q.true

pub point-requires : goal.point-requires
point-requires c =
    slot_placing c.requires.0 c.requires.1 c.meet-k.ensures c.if-k-eq0.false c.write_cover-q.ensures c.if-area-q.false

pub returns : goal.returns
returns c =
    slot_written c.requires.0 c.requires.1 c.meet-k.ensures c.if-k-eq0.false c.write_cover-q.ensures c.if-area-q.false c.point.ensures
