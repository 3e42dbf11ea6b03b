use Prim.Native.Nat.{◌-◌}
use Rattle.kept_header.proofs.Joining.{at_most}
use Rattle.kept_header.proofs.cover_fits.Goals as goal

pub returns : goal.returns
returns c = at_most (c.args.p - (c.args.first - c.args.head))
