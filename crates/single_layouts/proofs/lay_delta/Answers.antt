use Rattle.single_tables.proofs.Laying.{under_limit, delta_tries}
use mathlib.Core.Path.{refl}
use native.Mathlib.Omega.{arith}
use Rattle.single_layouts.proofs.lay_delta.Goals as goal

pub returns-then-area-lt6 : goal.returns-then-area-lt6
returns-then-area-lt6 c =
    (under_limit c.args.area.now 6 (omega arith) c.if-area-lt6.true, refl)

pub returns : goal.returns
returns c =
    delta_tries c.requires c.write_delta-end.ensures c.hand.ensures
