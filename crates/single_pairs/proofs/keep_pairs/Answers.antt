use Rattle.std.proofs.Common.{◌-◌}
use Rattle.single_pairs.proofs.Keeping.{keeping_all, keeping_asks, still_asks, keeping_turn, keeping_end}
use Rattle.single_pairs.proofs.keep_pairs.Goals as goal

pub loop-i-init : goal.loop-i-init
loop-i-init c = keeping_all

pub keep_pair-next-requires : goal.keep_pair-next-requires
keep_pair-next-requires c =
    keeping_asks c.requires c.loop-i.invariant c.loop-i-test.true

pub still_agree-same-requires : goal.still_agree-same-requires
still_agree-same-requires c =
    still_asks c.requires c.loop-i.invariant c.loop-i-test.true c.keep_pair-next.ensures

pub loop-i-preserved : goal.loop-i-preserved
loop-i-preserved c =
    keeping_turn c.requires c.loop-i.invariant c.loop-i-test.true c.keep_pair-next.ensures c.still_agree-same.ensures

pub shape_of-t : goal.shape_of-t
shape_of-t c =
    c.loop-i.invariant.kept.size

pub returns : goal.returns
returns c =
    keeping_end c.loop-i.invariant c.loop-i-test.false
