use Rattle.class_spots.proofs.Settling.{settled_null, settled_there}
use Rattle.class_slots.proofs.offset_of.Goals as goal

pub returns-then-w-eq0 : goal.returns-then-w-eq0
returns-then-w-eq0 c = settled_null c.args.p c.if-w-eq0.true

pub returns : goal.returns
returns c = settled_there c.args.p c.if-w-eq0.false
