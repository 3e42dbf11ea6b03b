use mathlib.Core.Path.{◌≡◌}
use native.Mathlib.Omega.{arith}
use Rattle.rule_says.proofs.Saying.{lengths_differ}
use Rattle.rule_says.proofs.same_part.Goals as goal

pub returns-then-m-n : goal.returns-then-m-n
returns-then-m-n c = lengths_differ c.args.left.now c.args.right.now c.args.t.now c.args.x c.args.y c.args.m c.args.n c.if-m-n.true

pub returns : goal.returns
returns c = let e : c.args.m ≡ c.args.n = omega arith in rw e c.same_row.ensures
