use native.Mathlib.Omega.{arith}
use Rattle.coverage_glyphs.proofs.Reading.{counts_none, last_order, counts_last}
use Rattle.coverage_glyphs.proofs.ranges_count.Goals as goal

pub returns-then-n-eq0 : goal.returns-then-n-eq0
returns-then-n-eq0 c = counts_none _ _ _ c.if-n-eq0.true

pub overflow_sub-result : goal.overflow_sub-result
overflow_sub-result c =
    omega (arith, last_order c.args.src.now c.args.at c.args.n c.requires c.if-n-eq0.false c.word_at-first.ensures.0 c.word_at-last.ensures c.word_at.ensures.0)

pub returns : goal.returns
returns c =
    counts_last c.args.src.now c.args.at c.args.n c.requires c.if-n-eq0.false c.word_at-first.ensures.0 c.word_at-last.ensures c.word_at.ensures.0
