use mathlib.Core.Path.{◌∙◌}
use Prim.Native.Nat.{◌/◌, ◌%◌}
use native.Mathlib.Omega.{arith}
use Rattle.rule_says.proofs.Saying.{forms_none, forms_there}
use Rattle.rule_rows.specs.Rows.{side_of}
use Rattle.rule_says.proofs.forms_of.Goals as goal

pub returns-then-kind-ne3 : goal.returns-then-kind-ne3
returns-then-kind-ne3 c = (forms_none c.args.kind (side_of (c.args.code % 2) c.args.left.now c.args.right.now) (c.args.code / 2) c.if-kind-ne3.true, omega arith)

pub returns : goal.returns
returns c = (c.word_of.ensures.0 ∙ forms_there c.args.kind (side_of (c.args.code % 2) c.args.left.now c.args.right.now) (c.args.code / 2) (omega arith), c.word_of.ensures.1)
