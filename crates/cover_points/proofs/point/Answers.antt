use Rattle.cover_parts.proofs.Rows.{point_far, point_past, point_at}
use native.Mathlib.Omega.{arith}
use Rattle.cover_points.proofs.point.Goals as goal

pub settle-spot-requires : goal.settle-spot-requires
settle-spot-requires c =
    (c.requires.few, c.requires.behind, c.requires.order, c.requires.low, c.requires.word)

pub returns-then-spot-eq0 : goal.returns-then-spot-eq0
returns-then-spot-eq0 c = point_far c.requires c.settle-spot.ensures c.if-spot-eq0.true c.over.ensures

pub returns-then-spot-gt-HIGHEST : goal.returns-then-spot-gt-HIGHEST
returns-then-spot-gt-HIGHEST c = point_past c.requires c.settle-spot.ensures c.if-spot-eq0.false c.if-spot-gt-HIGHEST.true c.over-then-spot-gt-HIGHEST.ensures

pub put-requires : goal.put-requires
put-requires c = omega (arith, c.requires.inside)

pub returns : goal.returns
returns c = point_at c.requires c.settle-spot.ensures c.if-spot-eq0.false c.if-spot-gt-HIGHEST.false c.put.ensures.1
