use Prim.Native.Nat.{◌-◌, ◌≤◌}
use Rattle.member_sets.proofs.crowded.Given as goal

abbrev pub invariant-loop-i : goal.invariant-loop-i
invariant-loop-i l = (l.i ≤ l.n) × (l.members ≤ l.most)
