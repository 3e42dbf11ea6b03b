use mathlib.Core.Path.{sym}
use Rattle.cell_maps.specs.Cells.{answer_own, answer_other}
use Rattle.fold.proofs.answer.Goals as goal

pub returns-then-e-old-clause-answer : goal.returns-then-e-old-clause-answer
returns-then-e-old-clause-answer c = sym (answer_other c.args.e c.args.old c.if-e-old.true)

pub returns-clause-answer : goal.returns-clause-answer
returns-clause-answer c = sym (answer_own c.args.e c.args.old c.if-e-old.false)
