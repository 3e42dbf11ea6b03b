use native.Mathlib.Omega.{arith}
use Rattle.class_spots.proofs.Placing.{spot_least, spot_far, spot_near}
use Rattle.class_spots.proofs.place_spot.Goals as goal

pub settle-spot-requires : goal.settle-spot-requires
settle-spot-requires c =
    (c.requires.turn_in.count, c.requires.turn_in.start, omega (arith, c.requires.behind.end), omega (arith, c.requires.near, c.requires.turn_in.near, c.requires.turn_in.low), c.requires.turn_in.source)

pub returns-then-spot-eq0 : goal.returns-then-spot-eq0
returns-then-spot-eq0 c = spot_far c.requires c.settle-spot.ensures c.if-spot-eq0.true c.over.ensures

pub overflow_sub-spot : goal.overflow_sub-spot
overflow_sub-spot c = omega (arith, spot_least c.requires c.settle-spot.ensures c.if-spot-eq0.false)

pub returns : goal.returns
returns c = spot_near c.requires c.settle-spot.ensures c.if-spot-eq0.false c.put.ensures
