use Rattle.area_parts.proofs.Cover.{onward_last, onward_next}
use Rattle.area_parts.proofs.goes_on.Goals as goal

pub returns-then-n-i : goal.returns-then-n-i
returns-then-n-i c =
    onward_last c.args.t.now c.args.at c.args.n c.args.i c.if-n-i.true

pub returns : goal.returns
returns c =
    onward_next c.args.t.now c.args.at c.args.n c.args.i c.if-n-i.false c.neighbours.ensures
