use native.Mathlib.Omega.{arith}
use Rattle.placed_sets.proofs.Settling.{placed_again, placed_gone, placed_full, may_keep, placed_kept_set}
use Rattle.placed_sets.proofs.place_set.Goals as goal

pub again-before-requires : goal.again-before-requires
again-before-requires c =
    (c.requires.3.counted, omega (arith, c.requires.3.behind, c.requires.3.room, c.requires.3.short))

pub returns-then-before-ne0 : goal.returns-then-before-ne0
returns-then-before-ne0 c =
    (placed_again c.requires.3 c.again-before.ensures c.if-before-ne0.true c.put.ensures, c.requires.4)

pub returns-then-q-eq0 : goal.returns-then-q-eq0
returns-then-q-eq0 c =
    (placed_gone c.requires.3 _ c.write_set-q.ensures.0 c.if-q-eq0.true, c.write_set-q.ensures.1)

pub returns-then-area-q : goal.returns-then-area-q
returns-then-area-q c =
    (placed_full c.requires.3 _ c.write_set-q.ensures.0 c.requires.1 c.if-area-q.true, c.write_set-q.ensures.1)

pub keep_set-requires : goal.keep_set-requires
keep_set-requires c = may_keep c.requires.3 c.write_set-q.ensures.0 c.if-q-eq0.false c.if-area-q.false

pub returns : goal.returns
returns c =
    (placed_kept_set c.requires.3 _ c.write_set-q.ensures.0 c.if-q-eq0.false c.if-area-q.false c.keep_set.ensures, c.write_set-q.ensures.1)
