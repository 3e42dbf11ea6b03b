use Prim.Native.Nat.{◌-◌}
use native.Mathlib.Omega.{arith}
use Rattle.rule_rows.proofs.Walking.{printing_all, printing_turn, printing_end}
use Rattle.rule_rows.proofs.print_row.Goals as goal

pub loop-i-init : goal.loop-i-init
loop-i-init c = printing_all (omega arith)

pub number_at-w-requires : goal.number_at-w-requires
number_at-w-requires c = (c.requires.0, omega arith)

pub loop-i-preserved : goal.loop-i-preserved
loop-i-preserved c = printing_turn c.loop-i.invariant c.loop-i-test.true c.number_at-w.ensures.0 c.mix-print.ensures

pub returns : goal.returns
returns c = printing_end c.loop-i.invariant c.loop-i-test.false
