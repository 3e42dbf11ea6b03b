use native.Mathlib.Omega.{arith}
use Rattle.handing.proofs.Moved.{closed_none, closed_gap}
use Rattle.handing.proofs.close_up.Goals as goal

pub returns-then-slot-first : goal.returns-then-slot-first
returns-then-slot-first c =
    closed_none c.if-slot-first.true c.requires.1 c.requires.2

pub returns : goal.returns
returns c =
    closed_gap c.requires.0 c.requires.1 c.requires.2 (omega (arith, c.requires)) c.lessen.ensures c.move_down.ensures
