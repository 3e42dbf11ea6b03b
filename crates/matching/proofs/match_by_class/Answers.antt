use mathlib.Core.Path.{refl}
use native.Mathlib.Omega.{arith}
use Rattle.meaning.specs.Words.{words}
use Rattle.matching.proofs.Rows.{plain_tables, chained_tables, plain_classes, chained_classes}
use Rattle.matching.proofs.match_by_class.Goals as goal

pub match_classes-requires : goal.match_classes-requires
match_classes-requires c =
    (c.requires.0, chained_tables c.args.src.now c.word_at.ensures.0 c.word_at-then-chained.ensures.0 c.word_at-then-chained-2.ensures.0 (rw c.if-chained.true at c.requires.1), refl, omega arith, c.requires.2, c.requires.3)

pub returns-then-chained : goal.returns-then-chained
returns-then-chained c =
    rw c.if-chained.true (chained_classes c.args.src.now (words c.args.string.now 0 c.args.n) c.args.place c.word_at.ensures.0 c.word_at-then-chained.ensures.0 c.word_at-then-chained-2.ensures.0 c.match_classes.ensures)

pub match_classes-requires-2 : goal.match_classes-requires-2
match_classes-requires-2 c =
    (c.requires.0, plain_tables c.args.src.now c.word_at-2.ensures.0 (rw c.if-chained.false at c.requires.1), refl, omega arith, c.requires.2, c.requires.3)

pub returns : goal.returns
returns c =
    rw c.if-chained.false (plain_classes c.args.src.now (words c.args.string.now 0 c.args.n) c.args.place c.word_at-2.ensures.0 c.match_classes-2.ensures)
