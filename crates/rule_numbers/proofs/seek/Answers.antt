use native.Mathlib.Omega.{arith}
use Rattle.rule_numbers.proofs.Keeping.{seeking_all, seeking_turn, seeking_found, seeking_end}
use Rattle.rule_numbers.proofs.Telling.{same_tells, other_tells}
use Rattle.rule_says.specs.Said.{says_by}
use Rattle.rule_numbers.proofs.seek.Goals as goal

pub loop-k-init : goal.loop-k-init
loop-k-init c = (seeking_all c.requires.4 c.requires.2 c.requires.3, c.requires.1)

pub returns-then-same-clause-sought : goal.returns-then-same-clause-sought
returns-then-same-clause-sought c =
    seeking_found c.requires.4 c.loop-k.invariant.0 c.loop-k-test.true (same_tells (says_by c.args.shape c.args.left.now c.args.right.now c.args.t.now) c.args.code c.cell.ensures.0 c.same.ensures c.if-same.true)

pub loop-k-smaller : goal.loop-k-smaller
loop-k-smaller c = omega (arith, c.cell-k.ensures.0, (c.requires.4.linked c.loop-k.k (c.loop-k.invariant.0.live c.loop-k-test.true).0).0)

pub loop-k-preserved : goal.loop-k-preserved
loop-k-preserved c = (seeking_turn c.requires.4 c.loop-k.invariant.0 c.loop-k-test.true (other_tells (says_by c.args.shape c.args.left.now c.args.right.now c.args.t.now) c.args.code c.cell.ensures.0 c.same.ensures c.if-same.false) c.cell-k.ensures.0, c.cell-k.ensures.1)

pub returns-clause-sought : goal.returns-clause-sought
returns-clause-sought c = seeking_end c.requires.4 c.loop-k.invariant.0 (omega arith)
