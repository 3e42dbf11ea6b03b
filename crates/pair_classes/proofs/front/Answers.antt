use native.Mathlib.Omega.{arith}
use Rattle.pair_classes.proofs.Cutting.{front_long, front_all}
use Rattle.pair_classes.proofs.front.Goals as goal

pub returns-then-area-gt-LIMIT : goal.returns-then-area-gt-LIMIT
returns-then-area-gt-LIMIT c =
    front_long c.if-area-gt-LIMIT.true

pub returns : goal.returns
returns c =
    front_all (omega (arith, c.if-area-gt-LIMIT.false))
