use Prim.Native.Nat.{◌+◌}
use Rattle.std.specs.Prelude.{None}
use Rattle.laws.specs.FaultsLeft.{Checking}
use Rattle.gsubgpos.specs.Marks.{Marked}
use Rattle.gsubgpos.specs.Members.{member_fault}
use Rattle.gsubgpos.proofs.check_members.Given as goal

abbrev pub invariant-loop-i : goal.invariant-loop-i
invariant-loop-i l =
    record {
      lowest : Checking (member_fault l.member l.src) l.src l.at (l.at + 2) l.n l.low l.i;
      marked : Marked (member_fault l.member l.src) None l.marks;
    }
