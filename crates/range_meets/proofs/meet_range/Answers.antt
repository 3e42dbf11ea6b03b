use Rattle.range_meets.proofs.Ranges.{noting_all, noting_low, noting_one, noting_past, noting_end}
use mathlib.Core.Path.{◌≡◌}
use Prim.Native.Nat.{◌-◌, ◌/◌, ◌≤◌}
use lib.ListN.{length}
use native.Mathlib.Omega.{arith}
use Rattle.range_meets.proofs.meet_range.Goals as goal
use Rattle.range_meets.proofs.meet_range.Goals.{After-word_inside-new}

pub loop-k-init : goal.loop-k-init
loop-k-init c = noting_all c.requires

pub shape_of-t-then-last-old : goal.shape_of-t-then-last-old
shape_of-t-then-last-old c = c.loop-k.invariant.kept.size

pub returns-then-last-old : goal.returns-then-last-old
returns-then-last-old c =
    noting_past c.requires c.loop-k.invariant (omega (arith, c.loop-k-test.true)) c.word_inside-old.ensures.0 c.if-last-old.true

-- the entry is not below the range
low_entry : (c : After-word_inside-new) → c.args.first ≤ c.word_inside-old.result
low_entry c =
    noting_low c.requires c.loop-k.invariant (omega (arith, c.loop-k-test.true)) c.word_inside-old.ensures.0

pub overflow_sub-t : goal.overflow_sub-t
overflow_sub-t c = low_entry (goal.at.overflow_sub-t c).After-word_inside-new

pub overflow_mul-t : goal.overflow_mul-t
overflow_mul-t c = omega (arith, low_entry (goal.at.overflow_mul-t c).After-word_inside-new)

pub overflow_add-t-in-loop-k : goal.overflow_add-t-in-loop-k
overflow_add-t-in-loop-k c = omega (arith, low_entry (goal.at.overflow_add-t-in-loop-k c).After-word_inside-new)

pub overflow_cast-t : goal.overflow_cast-t
overflow_cast-t c = omega (arith, low_entry (goal.at.overflow_cast-t c).After-word_inside-new)

pub loop-k-preserved : goal.loop-k-preserved
loop-k-preserved c =
    noting_one c.requires c.loop-k.invariant (omega (arith, c.loop-k-test.true)) c.word_inside-old.ensures.0 c.if-last-old.false c.word_inside-new.ensures.0 c.word_inside-new.ensures.1

pub shape_of-t : goal.shape_of-t
shape_of-t c = c.loop-k.invariant.kept.size

pub returns : goal.returns
returns c =
    let e : c.loop-k.k ≡ length c.args.glyphs.now / 4 - c.args.from = omega (arith, c.loop-k.invariant.within, c.requires.start, c.loop-k-test.false) in
    rw e at (noting_end c.requires c.loop-k.invariant (omega (arith, c.loop-k-test.false)))
