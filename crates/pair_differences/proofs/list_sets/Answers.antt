use Rattle.listing.specs.Listed.{listed_length}
use Rattle.pair_differences.proofs.Merging.{next_there, side_all, merging_all, merging_left, merging_right, merging_both, merging_end}
use native.Mathlib.Omega.{arith}
use Rattle.pair_differences.proofs.list_sets.Goals as goal

pub pairs-init : goal.pairs-init
pairs-init c =
    merging_all (side_all c.pair_size-lsize.ensures c.requires.0 c.set_count-m.ensures c.requires.3)
    (side_all c.pair_size-rsize.ensures c.requires.1 c.set_count-n.ensures c.requires.4)
    c.set_count-m.ensures
    c.set_count-n.ensures

pub overflow_sub-m : goal.overflow_sub-m
overflow_sub-m c =
    omega (arith, (next_there c.pairs.invariant.left c.next_second-a.ensures.0 (omega arith)).0)

pub pairs-smaller-then-a-b : goal.pairs-smaller-then-a-b
pairs-smaller-then-a-b c =
    omega (arith, (next_there c.pairs.invariant.left c.next_second-a.ensures.0 (omega arith)).0)

pub pairs-preserved-then-a-b : goal.pairs-preserved-then-a-b
pairs-preserved-then-a-b c =
    merging_left c.pairs.invariant c.next_second-a.ensures c.next_second-b.ensures c.if-a-b.true c.put_listed-at.ensures

pub overflow_sub-n : goal.overflow_sub-n
overflow_sub-n c =
    omega (arith, (next_there c.pairs.invariant.right c.next_second-b.ensures.0 (omega arith)).0)

pub pairs-smaller-then-b-a : goal.pairs-smaller-then-b-a
pairs-smaller-then-b-a c =
    omega (arith, (next_there c.pairs.invariant.right c.next_second-b.ensures.0 (omega arith)).0)

pub pairs-preserved-then-b-a : goal.pairs-preserved-then-b-a
pairs-preserved-then-b-a c =
    merging_right c.pairs.invariant c.next_second-a.ensures c.next_second-b.ensures c.if-b-a.true c.put_listed-at-then-b-a.ensures

pub overflow_sub-m-in-pairs : goal.overflow_sub-m-in-pairs
overflow_sub-m-in-pairs c =
    omega (arith, (next_there c.pairs.invariant.left c.next_second-a.ensures.0 (omega arith)).0)

pub overflow_sub-n-in-pairs : goal.overflow_sub-n-in-pairs
overflow_sub-n-in-pairs c =
    omega (arith, (next_there c.pairs.invariant.right c.next_second-b.ensures.0 (omega arith)).0)

pub pairs-preserved : goal.pairs-preserved
pairs-preserved c =
    merging_both c.pairs.invariant c.next_second-a.ensures c.next_second-b.ensures (omega arith) (omega arith) c.list_values-at.ensures

pub shape_of-out : goal.shape_of-out
shape_of-out c = listed_length (merging_end c.pairs.invariant c.pairs-test.false).0

pub returns : goal.returns
returns c = merging_end c.pairs.invariant c.pairs-test.false
