use mathlib.Core.Path.{refl}
use native.Mathlib.Omega.{arith}
use Rattle.pair_layouts.proofs.Laying.{high_unfit, long_unfit, last_fits}
use Rattle.pair_layouts.proofs.fits.Goals as goal

pub returns-then-ends-gt-HIGHEST : goal.returns-then-ends-gt-HIGHEST
returns-then-ends-gt-HIGHEST c =
    high_unfit c.args.ends c.if-ends-gt-HIGHEST.true

pub returns-then-ends-gt-LONGEST : goal.returns-then-ends-gt-LONGEST
returns-then-ends-gt-LONGEST c =
    long_unfit c.args.ends (omega (arith, c.if-ends-gt-HIGHEST.false)) c.if-ends-gt-LONGEST.true

pub returns : goal.returns
returns c =
    last_fits c.args.ends (omega (arith, c.if-ends-gt-HIGHEST.false)) (omega (arith, c.if-ends-gt-LONGEST.false)) refl
