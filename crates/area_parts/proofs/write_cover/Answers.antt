use Rattle.area_parts.proofs.Cover.{over_listed, over_ranged, cover_listed, cover_ranged}
use Rattle.area_parts.proofs.write_cover.Goals as goal

pub returns-then-area-p : goal.returns-then-area-p
returns-then-area-p c = over_listed c.count_runs-runs.ensures c.if-n-runs.true c.if-area-p.true c.over.ensures

pub returns-then-n-runs : goal.returns-then-n-runs
returns-then-n-runs c = cover_listed c.count_runs-runs.ensures c.if-n-runs.true c.if-area-p.false c.put_two-q.ensures c.put_glyphs.ensures

pub returns-then-area-p-2 : goal.returns-then-area-p-2
returns-then-area-p-2 c = over_ranged c.count_runs-runs.ensures c.if-n-runs.false c.if-area-p-2.true c.over-then-area-p-2.ensures

pub returns : goal.returns
returns c = cover_ranged c.count_runs-runs.ensures c.if-n-runs.false c.if-area-p-2.false c.put_two-q-2.ensures c.put_ranges.ensures
