use Rattle.class_lists.proofs.Listing.{filling_in, filling_put}
use Rattle.class_lists.proofs.Listing.{filling_all, filling_end, filling_stops, filling_last, filling_next}
use mathlib.Core.Path.{◌≡◌, ◌∙◌}
use native.Mathlib.Omega.{arith}
use Rattle.class_lists.proofs.fill.Goals as goal

pub loop-e-init : goal.loop-e-init
loop-e-init c = filling_all c.requires

pub run_at-r-requires : goal.run_at-r-requires
run_at-r-requires c = (c.loop-e.invariant.good, rw c.count_runs-n.ensures at c.loop-e-test.true)

pub shape_of-t-then-end-first : goal.shape_of-t-then-end-first
shape_of-t-then-end-first c = c.loop-e.invariant.kept.size

pub returns-then-end-first : goal.returns-then-end-first
returns-then-end-first c =
    filling_stops c.loop-e.invariant (rw c.count_runs-n.ensures at c.loop-e-test.true) c.run_at-r.ensures c.max-first.ensures c.if-end-first.true

pub put_run-to-requires : goal.put_run-to-requires
put_run-to-requires c =
    filling_put c.loop-e.invariant (rw c.count_runs-n.ensures at c.loop-e-test.true) c.run_at-r.ensures c.max-first.ensures _ (omega (arith, c.if-end-past.true, c.if-end-first.false))

pub shape_of-t-then-end-past : goal.shape_of-t-then-end-past
shape_of-t-then-end-past c = c.put_run-to.ensures.kept.size ∙ c.loop-e.invariant.kept.size

pub returns-then-end-past : goal.returns-then-end-past
returns-then-end-past c =
    filling_last c.loop-e.invariant (rw c.count_runs-n.ensures at c.loop-e-test.true) c.run_at-r.ensures c.max-first.ensures
    c.if-end-first.false c.if-end-past.true c.put_run-to.ensures

pub put_run-to-requires-in-loop-e : goal.put_run-to-requires-in-loop-e
put_run-to-requires-in-loop-e c =
    let h = rw c.count_runs-n.ensures at c.loop-e-test.true in
    filling_put c.loop-e.invariant h c.run_at-r.ensures c.max-first.ensures _ (omega (arith, filling_in c.loop-e.invariant h c.run_at-r.ensures c.max-first.ensures))

pub loop-e-preserved : goal.loop-e-preserved
loop-e-preserved c =
    filling_next c.loop-e.invariant (rw c.count_runs-n.ensures at c.loop-e-test.true) c.run_at-r.ensures c.max-first.ensures
    c.if-end-past.false c.put_run-to-in-loop-e.ensures

pub shape_of-t : goal.shape_of-t
shape_of-t c = c.loop-e.invariant.kept.size

pub returns : goal.returns
returns c =
    let e : c.loop-e.e ≡ c.count_runs-n.result = omega (arith, c.loop-e.invariant.reached.within, c.count_runs-n.ensures, c.loop-e-test.false) in
    rw e at (filling_end c.loop-e.invariant (rw c.count_runs-n.ensures at c.loop-e-test.false))
