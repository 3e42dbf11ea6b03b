use Prim.Native.Nat.{◌<◌}
use Rattle.rule_numbers.proofs.Keeping.{Seeking}
use Rattle.rule_says.specs.Said.{says_by, print_says}
use Rattle.rule_numbers.proofs.seek.Given as goal

abbrev pub invariant-loop-k : goal.invariant-loop-k
invariant-loop-k l = Seeking (says_by l.shape l.left l.right l.t) print_says l.came l.code l.k × (l.k < 0x1_0000_0000)

abbrev pub decreases-loop-k : goal.decreases-loop-k
decreases-loop-k l = l.k
