use mathlib.Core.Path.{◌∙◌}
use native.Mathlib.Omega.{arith}
use Rattle.rule_rows.proofs.Walking.{stands_itself, stands_for}
use Rattle.rule_rows.proofs.number_at.Goals as goal

pub returns-then-x-eq0 : goal.returns-then-x-eq0
returns-then-x-eq0 c = (rw (← c.word_of-w.ensures.0) (stands_itself c.args.t.now c.args.x.base c.word_of-w.result c.if-x-eq0.true), omega (arith, c.word_of-w.ensures.1))

pub returns : goal.returns
returns c = (rw (← c.word_of-w.ensures.0) (c.cell.ensures.0 ∙ stands_for c.args.t.now c.args.x.base c.word_of-w.result c.if-x-eq0.false), c.cell.ensures.1)
