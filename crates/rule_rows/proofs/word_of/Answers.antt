use Rattle.rule_rows.proofs.Walking.{side_left, side_right}
use Rattle.rule_rows.proofs.word_of.Goals as goal

pub returns-then-side-eq0 : goal.returns-then-side-eq0
returns-then-side-eq0 c = (rw (side_left c.args.side c.args.left.now c.args.right.now c.if-side-eq0.true) c.word_at.ensures.0, c.word_at.ensures.1)

pub returns : goal.returns
returns c = (rw (side_right c.args.side c.args.left.now c.args.right.now c.if-side-eq0.false) c.word_at-2.ensures.0, c.word_at-2.ensures.1)
