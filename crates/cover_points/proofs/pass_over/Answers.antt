use Rattle.cover_parts.proofs.Rows.{over_met, over_gone}
use Rattle.cover_points.proofs.pass_over.Goals as goal

pub returns-then-meets : goal.returns-then-meets
returns-then-meets c =
    over_met c.requires c.args.p c.meets.ensures c.if-meets.true

pub returns : goal.returns
returns c =
    over_gone c.requires c.args.p c.meets.ensures c.if-meets.false
