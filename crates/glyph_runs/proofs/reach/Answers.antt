use Rattle.glyph_runs.specs.Found.{few_runs, olds_rising}
use Rattle.glyph_runs.proofs.Reading.{reach_none, reach_in, reach_past}
use native.Mathlib.Omega.{arith}
use Rattle.glyph_runs.proofs.reach.Goals as goal

pub overflow_add-from : goal.overflow_add-from
overflow_add-from c = omega (arith, c.requires.1, few_runs c.requires.0, c.well_formed)

pub reach-after-requires : goal.reach-after-requires
reach-after-requires c =
    rw c.count_runs-n.ensures (olds_rising c.requires.0, c.requires.1)

pub returns-then-after-from : goal.returns-then-after-from
returns-then-after-from c =
    reach_none c.requires.0 c.requires.2 (rw c.count_runs-n.ensures at c.reach-after.ensures) c.if-after-from.true

pub returns-then-glyph-last : goal.returns-then-glyph-last
returns-then-glyph-last c =
    reach_in c.requires.0 c.requires.2 (rw c.count_runs-n.ensures at c.reach-after.ensures) c.if-after-from.false c.run_at-last.ensures c.if-glyph-last.true

pub returns : goal.returns
returns c =
    reach_past c.requires.0 c.requires.2 (rw c.count_runs-n.ensures at c.reach-after.ensures) c.if-after-from.false c.run_at-last.ensures c.if-glyph-last.false
