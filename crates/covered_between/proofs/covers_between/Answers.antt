use Rattle.covered_between.proofs.Between.{list_sound, ranges_sound, by_list, by_ranges}
use native.Mathlib.Omega.{arith}
use Rattle.covered_between.proofs.covers_between.Goals as goal

pub lists_between-requires : goal.lists_between-requires
lists_between-requires c =
    (list_sound c.args.src.now c.args.at c.requires.0 c.word_at.ensures.0 c.word_at-n.ensures.0 c.if-word_at-eq1.true, omega arith)

pub returns-then-word_at-eq1 : goal.returns-then-word_at-eq1
returns-then-word_at-eq1 c =
    by_list c.args.src.now c.args.at c.requires.0 c.word_at.ensures.0 c.word_at-n.ensures.0 c.if-word_at-eq1.true c.args.first c.args.last c.lists_between.ensures

pub ranges_between-requires : goal.ranges_between-requires
ranges_between-requires c =
    (ranges_sound c.args.src.now c.args.at c.requires.0 c.word_at.ensures.0 c.word_at-n.ensures.0 c.if-word_at-eq1.false, omega arith, c.requires.2)

pub returns : goal.returns
returns c =
    by_ranges c.args.src.now c.args.at c.requires.0 c.word_at.ensures.0 c.word_at-n.ensures.0 c.if-word_at-eq1.false c.args.first c.args.last c.ranges_between.ensures
