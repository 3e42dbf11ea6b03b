use Rattle.rule_rows.specs.Rows.{side_of}
use Rattle.rule_says.specs.Said.{says_by, print_says}
use Rattle.set_numbers.proofs.Slots.{Siding}
use Rattle.set_numbers.proofs.number_side.Given as goal

abbrev pub invariant-loop-i : goal.invariant-loop-i
invariant-loop-i l = Siding (says_by l.shape l.left l.right l.t) print_says (side_of l.slots.side l.left l.right) l.slots.side l.slots.at l.initial.num l.initial.came l.n l.last l.i l.num l.came
