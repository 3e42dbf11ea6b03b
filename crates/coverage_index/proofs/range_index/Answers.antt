use native.Mathlib.Omega.{arith}
use Rattle.halving.specs.Columns.{ends_rising}
use Rattle.coverage_index.proofs.Ranges.{range_none, range_gap, range_in}
use Rattle.coverage_index.proofs.range_index.Goals as goal

pub reach-i-requires : goal.reach-i-requires
reach-i-requires c =
    (ends_rising c.args.src.now c.args.at c.args.n c.requires.0.fits c.requires.0.ascend, omega arith)

pub returns-then-n-i : goal.returns-then-n-i
returns-then-n-i c = range_none c.requires.0 c.reach-i.ensures c.if-n-i.true

pub returns-then-glyph-first : goal.returns-then-glyph-first
returns-then-glyph-first c =
    range_gap c.requires.0 c.reach-i.ensures c.if-n-i.false c.word_inside-first.ensures.0 c.if-glyph-first.true

pub returns : goal.returns
returns c =
    range_in c.requires.0 c.reach-i.ensures c.if-n-i.false c.word_inside-first.ensures.0 c.if-glyph-first.false c.word_inside.ensures.0
