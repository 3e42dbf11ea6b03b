use Prim.Native.Nat.{◌-◌}
use native.Mathlib.Omega.{arith}
use Rattle.rule_rows.proofs.Walking.{comparing_all, comparing_same, comparing_differ, comparing_end}
use Rattle.rule_rows.proofs.same_row.Goals as goal

pub loop-i-init : goal.loop-i-init
loop-i-init c = comparing_all

pub number_at-a-requires : goal.number_at-a-requires
number_at-a-requires c = (c.requires.0, omega arith)

pub number_at-b-requires : goal.number_at-b-requires
number_at-b-requires c = (c.requires.1, omega arith)

pub returns-then-a-b : goal.returns-then-a-b
returns-then-a-b c = comparing_differ c.loop-i.invariant c.loop-i-test.true c.number_at-a.ensures.0 c.number_at-b.ensures.0 c.if-a-b.true

pub loop-i-preserved : goal.loop-i-preserved
loop-i-preserved c = comparing_same c.loop-i.invariant c.loop-i-test.true c.number_at-a.ensures.0 c.number_at-b.ensures.0 (omega arith)

pub returns : goal.returns
returns c = comparing_end c.loop-i.invariant c.loop-i-test.false
