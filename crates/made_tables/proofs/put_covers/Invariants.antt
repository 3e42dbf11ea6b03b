use Prim.Native.Nat.{◌+◌, ◌*◌, ◌≤◌}
use Rattle.made_tables.proofs.put_covers.Given as goal

abbrev pub invariant-loop-i : goal.invariant-loop-i
invariant-loop-i l = l.p ≤ 196608 + 131076 * l._i
