use native.Mathlib.Omega.{arith}
use Rattle.numbers.proofs.Numbers.{renumbering_all, renumbering_turn, renumbering_gone, renumbering_end, found_in}
use Rattle.numbers.proofs.renumber.Goals as goal

pub loop-i-init : goal.loop-i-init
loop-i-init c = renumbering_all (omega arith)

pub returns-in_default : goal.returns-in_default
returns-in_default c =
    renumbering_gone c.loop-i.invariant c.loop-i-test.true c.word_inside.ensures.0 (found_in _ c.requires.1 c.in_default.ensures.answer)

pub loop-i-preserved : goal.loop-i-preserved
loop-i-preserved c =
    renumbering_turn c.loop-i.invariant c.loop-i-test.true c.word_inside.ensures.0 (found_in _ c.requires.1 c.in-Some.ensures.answer) c.put.ensures

pub returns : goal.returns
returns c = renumbering_end c.loop-i.invariant c.loop-i-test.false
