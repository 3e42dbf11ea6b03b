use Rattle.known_blocks.proofs.Seeking.{seeking_all, seeking_found, seeking_turn, seeking_end}
use Prim.Native.Nat.{◌-◌}
use native.Mathlib.Omega.{arith}
use Rattle.known_blocks.proofs.find.Goals as goal

pub loop-i-init : goal.loop-i-init
loop-i-init c = seeking_all _ _ _ _ _

pub returns-then-is_equal : goal.returns-then-is_equal
returns-then-is_equal c = seeking_found _ _ _ _ _ c.loop-i.invariant (omega (arith, c.cell-count.ensures.0)) c.is_equal.ensures c.if-is_equal.true c.start.ensures.0

pub loop-i-preserved : goal.loop-i-preserved
loop-i-preserved c = seeking_turn _ _ _ _ _ c.loop-i.invariant (omega (arith, c.cell-count.ensures.0)) c.is_equal.ensures c.if-is_equal.false

pub returns : goal.returns
returns c = seeking_end _ _ _ _ _ c.loop-i.invariant c.requires.1 (omega (arith, c.cell-count.ensures.0))
