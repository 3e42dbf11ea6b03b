use Rattle.class_lists.proofs.Listing.{listing_all, listing_end, listing_hint, listing_fill, listing_next}
use Rattle.class_lists.proofs.list_classes.Goals as goal

pub loop-run-init : goal.loop-run-init
loop-run-init c = listing_all c.requires

pub run_at-r-requires : goal.run_at-r-requires
run_at-r-requires c = (c.loop-run.invariant.good, rw c.count_runs-n.ensures at c.loop-run-test.true)

pub stretch_from-found-requires : goal.stretch_from-found-requires
stretch_from-found-requires c =
    listing_hint c.loop-run.invariant (rw c.count_runs-n.ensures at c.loop-run-test.true) c.run_at-r.ensures c.max-glyph.ensures

pub list_stretch-place-requires : goal.list_stretch-place-requires
list_stretch-place-requires c =
    listing_fill c.loop-run.invariant (rw c.count_runs-n.ensures at c.loop-run-test.true) c.run_at-r.ensures c.max-glyph.ensures c.stretch_from-found.ensures

pub loop-run-preserved : goal.loop-run-preserved
loop-run-preserved c =
    listing_next c.loop-run.invariant (rw c.count_runs-n.ensures at c.loop-run-test.true) c.run_at-r.ensures c.max-glyph.ensures
    c.stretch_from-found.ensures c.list_stretch-place.ensures c.max-high.ensures c.met_zero-zero.ensures

pub overflow_sub-result : goal.overflow_sub-result
overflow_sub-result c = c.loop-run.invariant.order

pub shape_of-t : goal.shape_of-t
shape_of-t c = c.loop-run.invariant.kept.size

pub returns : goal.returns
returns c = listing_end c.loop-run.invariant (rw c.count_runs-n.ensures at c.loop-run-test.false)
