use Prim.Native.Nat.{◌-◌}
use Rattle.records.specs.Crowded.{Counting}
use Rattle.records.proofs.members.Given as goal

abbrev pub invariant-loop-i : goal.invariant-loop-i
invariant-loop-i l = Counting l.src l.slot l.n l.total l.i
