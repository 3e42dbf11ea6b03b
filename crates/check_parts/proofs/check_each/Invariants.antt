use Rattle.std.specs.Prelude.{None}
use Rattle.laws.specs.FaultsLeft.{Checking}
use Rattle.gsubgpos.specs.Marks.{Marked}
use Rattle.check_parts.specs.Parts.{fault_of_part, member_of_part}
use Rattle.check_parts.specs.Seen.{Seen}
use Rattle.check_parts.proofs.check_each.Given as goal

abbrev pub invariant-loop-i : goal.invariant-loop-i
invariant-loop-i l =
    record {
      lowest : Checking (fault_of_part l.part l.src) l.src 0 l.slot l.n l.low l.i;
      seen : Seen (fault_of_part l.part l.src) l.low l.marks;
      marked : Marked (member_of_part l.part l.src) None l.sound;
    }
