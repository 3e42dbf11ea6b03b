use native.Mathlib.Omega.{arith}
use Rattle.class_spots.proofs.Placing.{again_least, placed_again, placed_null, placed_full, set_after, placed_long, spot_asked, placed_spot}
use Rattle.class_slots.proofs.place_set.Goals as goal

pub overflow_sub-before : goal.overflow_sub-before
overflow_sub-before c = omega (arith, again_least c.requires.0 c.again-before.ensures c.if-before-ne0.true)

pub returns-then-before-ne0 : goal.returns-then-before-ne0
returns-then-before-ne0 c = (placed_again c.requires.0 c.again-before.ensures c.if-before-ne0.true c.put.ensures, c.requires.1)

pub returns-then-q-eq0 : goal.returns-then-q-eq0
returns-then-q-eq0 c = (placed_null c.requires.0 c.write_set-q.ensures.0 c.if-q-eq0.true c.put-then-q-eq0.ensures, c.write_set-q.ensures.1)

pub returns-then-area-q : goal.returns-then-area-q
returns-then-area-q c = (placed_full c.requires.0 c.write_set-q.ensures.0 c.if-area-q.true, c.write_set-q.ensures.1)

pub overflow_sub-q : goal.overflow_sub-q
overflow_sub-q c = omega (arith, set_after c.requires.0 c.write_set-q.ensures.0 c.if-q-eq0.false c.if-area-q.false)

pub returns-then-q-turn-gt-HIGHEST : goal.returns-then-q-turn-gt-HIGHEST
returns-then-q-turn-gt-HIGHEST c = (placed_long c.requires.0 c.write_set-q.ensures.0 c.if-q-eq0.false c.if-area-q.false c.if-q-turn-gt-HIGHEST.true c.over.ensures, c.write_set-q.ensures.1)

pub place_spot-requires : goal.place_spot-requires
place_spot-requires c = spot_asked c.requires.0 c.write_set-q.ensures.0 c.if-q-eq0.false c.if-area-q.false c.if-q-turn-gt-HIGHEST.false

pub returns : goal.returns
returns c = (placed_spot c.requires.0 c.write_set-q.ensures.0 c.if-q-eq0.false c.if-area-q.false c.if-q-turn-gt-HIGHEST.false c.place_spot.ensures, c.write_set-q.ensures.1)
