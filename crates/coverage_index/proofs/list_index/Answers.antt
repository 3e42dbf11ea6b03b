use native.Mathlib.Omega.{arith}
use Rattle.halving.specs.Columns.{list_rising}
use Rattle.coverage_index.proofs.Lists.{list_none, list_gap, list_at}
use Rattle.coverage_index.proofs.list_index.Goals as goal

pub reach-i-requires : goal.reach-i-requires
reach-i-requires c =
    (list_rising c.args.src.now c.args.at c.args.n c.requires.fits c.requires.ascend, omega arith)

pub returns-then-n-i : goal.returns-then-n-i
returns-then-n-i c = list_none c.requires c.reach-i.ensures c.if-n-i.true

pub returns-then-glyph-word_inside : goal.returns-then-glyph-word_inside
returns-then-glyph-word_inside c =
    list_gap c.requires c.reach-i.ensures c.if-n-i.false c.word_inside.ensures.0 c.if-glyph-word_inside.true

pub returns : goal.returns
returns c =
    list_at c.requires c.reach-i.ensures c.if-n-i.false c.word_inside.ensures.0 c.if-glyph-word_inside.false
