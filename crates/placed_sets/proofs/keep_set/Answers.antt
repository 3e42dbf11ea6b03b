use native.Mathlib.Omega.{arith}
use Rattle.placed_sets.proofs.Settling.{kept_long, kept_far, kept_one}
use Rattle.placed_sets.proofs.keep_set.Goals as goal

pub returns-then-q-turn-gt-HIGHEST : goal.returns-then-q-turn-gt-HIGHEST
returns-then-q-turn-gt-HIGHEST c = kept_long c.if-q-turn-gt-HIGHEST.true c.over.ensures

pub settle-spot-requires : goal.settle-spot-requires
settle-spot-requires c =
    (c.requires.0.counted, c.requires.0.behind, c.requires.1, omega (arith, c.requires.0.short), c.requires.0.from)

pub returns-then-spot-eq0 : goal.returns-then-spot-eq0
returns-then-spot-eq0 c = kept_far c.settle-spot.ensures c.requires.0.slot c.if-spot-eq0.true c.over-then-spot-eq0.ensures

pub returns : goal.returns
returns c = kept_one c.settle-spot.ensures c.if-q-turn-gt-HIGHEST.false c.if-spot-eq0.false c.put.ensures
