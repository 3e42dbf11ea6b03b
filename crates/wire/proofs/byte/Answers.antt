use native.Mathlib.Omega.{arith}
use mathlib.Core.Path.{refl, sym}
use lib.ListN.{get_or-eq_default}
use Rattle.wire.proofs.byte.Goals as goal

pub returns-then-at-s : goal.returns-then-at-s
returns-then-at-s c = (refl, omega (arith, c.type_inv.s c.args.at))

pub returns : goal.returns
returns c = (sym (get_or-eq_default c.args.s.now 0 c.if-at-s.false), omega arith)
