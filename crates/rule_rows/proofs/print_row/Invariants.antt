use Prim.Native.Nat.{◌-◌}
use Rattle.rule_rows.proofs.Walking.{Printing}
use Rattle.rule_rows.proofs.print_row.Given as goal

abbrev pub invariant-loop-i : goal.invariant-loop-i
invariant-loop-i l = Printing l.left l.right l.t l.x l.n l.h l.print l.i
