use Rattle.covered_between.proofs.Counting.{not_past, past_here}
use Rattle.covered_between.proofs.past.Goals as goal

pub returns-then-s-n : goal.returns-then-s-n
returns-then-s-n c = not_past _ _ _ _ c.if-s-n.true

pub returns : goal.returns
returns c = past_here _ _ _ _ c.if-s-n.false c.covers_between.ensures
