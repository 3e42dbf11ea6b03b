use native.Mathlib.Omega.{arith}
use Rattle.noted_runs.proofs.Rows.{stepping_all, stepping_next, stepping_end}
use Rattle.noted_runs.proofs.note_steps.Goals as goal

pub loop-i-init : goal.loop-i-init
loop-i-init c = stepping_all

pub bounds-t-to : goal.bounds-t-to
bounds-t-to c = omega (arith, c.loop-i-test.true, c.loop-i.invariant.kept.size, c.requires.0)

pub loop-i-preserved : goal.loop-i-preserved
loop-i-preserved c = stepping_next c.loop-i.invariant c.loop-i-test.true c.requires

pub shape_of-t : goal.shape_of-t
shape_of-t c = c.loop-i.invariant.kept.size

pub returns : goal.returns
returns c = stepping_end c.loop-i.invariant c.loop-i-test.false
