use Prim.Native.Nat.{◌+◌, ◌*◌, ◌≤◌}
use Rattle.made_tables.proofs.put_pair_sets.Given as goal

abbrev pub invariant-loop-i : goal.invariant-loop-i
invariant-loop-i l = l.p ≤ 65536 + 1026 * l._i
