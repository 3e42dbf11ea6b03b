use native.Mathlib.Omega.{arith}
use borrow.Author.Tests.{le-leb, lt-leb, lt-ltb, le-ltb}
use Rattle.map_runs.proofs.run_fits.Goals as goal

pub returns-then-first-old : goal.returns-then-first-old
returns-then-first-old c = simp (lt-leb _ _ c.if-first-old.true)

pub returns-then-becomes-new : goal.returns-then-becomes-new
returns-then-becomes-new c = simp (le-leb _ _ c.if-first-old.false, lt-leb _ _ c.if-becomes-new.true)

pub returns-then-n-eq0 : goal.returns-then-n-eq0
returns-then-n-eq0 c = simp (le-leb _ _ c.if-first-old.false, le-leb _ _ c.if-becomes-new.false, le-ltb 0 c.args.n (omega (arith, c.if-n-eq0.true)))

pub returns-then-first-n-gt65536 : goal.returns-then-first-n-gt65536
returns-then-first-n-gt65536 c = simp (le-leb _ _ c.if-first-old.false, le-leb _ _ c.if-becomes-new.false, lt-ltb 0 c.args.n (omega (arith, c.if-n-eq0.false)), lt-leb _ _ c.if-first-n-gt65536.true)

pub returns : goal.returns
returns c = simp (le-leb _ _ c.if-first-old.false, le-leb _ _ c.if-becomes-new.false, lt-ltb 0 c.args.n (omega (arith, c.if-n-eq0.false)), le-leb _ _ c.if-first-n-gt65536.false)
