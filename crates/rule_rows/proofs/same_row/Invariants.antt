use Prim.Native.Nat.{◌-◌}
use Rattle.rule_rows.proofs.Walking.{Comparing}
use Rattle.rule_rows.proofs.same_row.Given as goal

abbrev pub invariant-loop-i : goal.invariant-loop-i
invariant-loop-i l = Comparing l.left l.right l.t l.x l.y l.n l.i
