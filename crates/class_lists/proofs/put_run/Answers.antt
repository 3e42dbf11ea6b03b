use Rattle.class_lists.proofs.Listing.{put_none, putting_all, putting_inside, putting_next, putting_end}
use mathlib.Core.Path.{refl}
use Rattle.class_lists.proofs.put_run.Goals as goal

pub returns-then-t-past : goal.returns-then-t-past
returns-then-t-past c = put_none c.if-t-past.true

pub loop-i-init : goal.loop-i-init
loop-i-init c = (refl, putting_all c.if-t-past.false)

pub bounds-t-cell : goal.bounds-t-cell
bounds-t-cell c = putting_inside c.loop-i.invariant.1 c.loop-i-test.true

pub loop-i-preserved : goal.loop-i-preserved
loop-i-preserved c = (c.loop-i.invariant.0, putting_next c.loop-i.invariant.1 c.loop-i-test.true c.requires.2)

pub shape_of-t : goal.shape_of-t
shape_of-t c = c.loop-i.invariant.1.kept.size

pub returns : goal.returns
returns c = rw c.loop-i.invariant.0 (putting_end c.loop-i.invariant.1 c.loop-i-test.false)
