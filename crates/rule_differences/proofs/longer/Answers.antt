use Rattle.rule_differences.proofs.Ranking.{longer_right, longer_left}
use native.Mathlib.Omega.{arith}
use Rattle.rule_differences.proofs.longer.Goals as goal

pub returns-then-m-n : goal.returns-then-m-n
returns-then-m-n c = longer_right _ _ c.if-m-n.true

pub returns : goal.returns
returns c = longer_left _ _ (omega arith)
