use Rattle.rule_rows.specs.Rows.{side_of}
use Rattle.rule_says.specs.Said.{says_by, print_says}
use Rattle.set_numbers.specs.Sets.{codes_of}
use Rattle.set_numbers.proofs.Slots.{rest, Numbering}
use Prim.Native.Nat.{◌≤◌}
use Rattle.set_numbers.proofs.number_set.Given as goal

abbrev pub invariant-loop-i : goal.invariant-loop-i
invariant-loop-i l = Numbering (says_by l.shape l.left l.right l.t) print_says (codes_of (side_of l.set.side l.left l.right) l.set.side l.set.at) l.initial.num l.initial.came (rest (side_of l.set.side l.left l.right) l.set.side l.set.at l.n l.i) l.num l.came × (l.i ≤ l.n)
