use native.Mathlib.Omega.{arith}
use Rattle.pair_layouts.proofs.Sharing.{plain_shares, cells_say}
use Rattle.pair_layouts.proofs.shares.Goals as goal

pub returns-then-packing-ne1 : goal.returns-then-packing-ne1
returns-then-packing-ne1 c = plain_shares c.args.packing c.args.t.now c.args.first c.args.second c.if-packing-ne1.true

pub returns : goal.returns
returns c = cells_say _ _ _ _ c.if-packing-ne1.false (omega arith) (omega arith) c.eq.ensures
