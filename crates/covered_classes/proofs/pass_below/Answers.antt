use Rattle.covered_classes.proofs.Covering.{passing_all, passing_next, passing_stop, passing_end}
use mathlib.Core.Path.{◌≡◌}
use native.Mathlib.Omega.{arith}
use Rattle.covered_classes.proofs.pass_below.Goals as goal

pub loop-k-init : goal.loop-k-init
loop-k-init c = passing_all c.requires.1

pub returns-then-new-t : goal.returns-then-new-t
returns-then-new-t c = passing_stop c.loop-k.invariant c.loop-k-test.true c.if-new-t.true

pub loop-k-preserved : goal.loop-k-preserved
loop-k-preserved c = passing_next c.loop-k.invariant c.loop-k-test.true c.if-new-t.false

pub returns : goal.returns
returns c =
    let e : c.loop-k.k ≡ c.args.n = omega (arith, c.loop-k.invariant.within) in
    rw e at (passing_end c.loop-k.invariant c.loop-k-test.false)
