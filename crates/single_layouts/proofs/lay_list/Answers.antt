use mathlib.Core.Path.{refl}
use Prim.Native.Nat.{◌+◌, ◌*◌}
use native.Mathlib.Omega.{arith}
use Rattle.single_tables.proofs.Laying.{list_unfit, under_limit, list_tries}
use Rattle.single_layouts.proofs.lay_list.Goals as goal

pub returns-then-n-gt-HIGHEST : goal.returns-then-n-gt-HIGHEST
returns-then-n-gt-HIGHEST c =
    list_unfit c.args.n c.args.out.now _ c.if-n-gt-HIGHEST.true

pub returns-then-area-n : goal.returns-then-area-n
returns-then-area-n c =
    (under_limit c.args.area.now (6 + 2 * c.args.n) (omega (arith, c.if-n-gt-HIGHEST.false)) c.if-area-n.true, refl)

pub returns : goal.returns
returns c =
    list_tries c.requires c.if-n-gt-HIGHEST.false c.write_list-end.ensures c.hand.ensures
