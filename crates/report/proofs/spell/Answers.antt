use mathlib.Core.Path.{sym, ◌∙◌}
use native.Mathlib.Omega.{arith}
use borrow.Author.Rules.{rules}
use Rattle.report.proofs.Spelling.{spelling_all, spelling_turn, spelling_end}
use Rattle.report.proofs.spell.Goals as goal

pub loop-left-init : goal.loop-left-init
loop-left-init c = spelling_all c.requires (search rules)

pub loop-left-preserved : goal.loop-left-preserved
loop-left-preserved c = spelling_turn c.loop-left.invariant c.loop-left-test.true

pub shape_of-small : goal.shape_of-small
shape_of-small c = (spelling_end c.loop-left.invariant (omega arith)).long ∙ sym c.requires

pub returns : goal.returns
returns c = spelling_end c.loop-left.invariant (omega arith)
