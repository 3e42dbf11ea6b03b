use borrow.Author.Tests.{not-true, not-false}
use Rattle.fold_pairs.proofs.Laws.{laying_all, laying_next, laying_clash, laying_end}
use Rattle.fold_pairs.proofs.lay_in.Goals as goal

pub loop-i-init : goal.loop-i-init
loop-i-init c = laying_all c.requires.1 c.clear.ensures.0

pub returns-then-not-add : goal.returns-then-not-add
returns-then-not-add c =
    laying_clash c.loop-i.invariant c.loop-i-test.true c.word_inside-old.ensures c.word_inside-new.ensures c.add.ensures c.clear.ensures.1 (not-true c.add.result c.if-not-add.true-raw)

pub loop-i-preserved : goal.loop-i-preserved
loop-i-preserved c =
    laying_next c.loop-i.invariant c.loop-i-test.true c.word_inside-old.ensures c.word_inside-new.ensures c.add.ensures (not-false c.add.result c.if-not-add.false-raw)

pub returns : goal.returns
returns c = laying_end c.clear.ensures.1 c.loop-i.invariant c.loop-i-test.false
