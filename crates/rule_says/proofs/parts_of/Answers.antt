use Prim.Native.Nat.{◌%◌}
use Rattle.rule_rows.proofs.Walking.{side_left, side_right}
use Rattle.rule_says.proofs.parts_of.Goals as goal

pub returns-then-code-eq0 : goal.returns-then-code-eq0
returns-then-code-eq0 c = rw (side_left (c.args.code % 2) c.args.left.now c.args.right.now c.if-code-eq0.true) c.parts_at.ensures

pub returns : goal.returns
returns c = rw (side_right (c.args.code % 2) c.args.left.now c.args.right.now c.if-code-eq0.false) c.parts_at-2.ensures
