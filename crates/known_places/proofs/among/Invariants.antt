use Prim.Native.Nat.{◌-◌, ◌≤◌}
use Rattle.known_places.proofs.among.Given as goal

abbrev pub invariant-loop-i : goal.invariant-loop-i
invariant-loop-i l = l.i ≤ l.count
