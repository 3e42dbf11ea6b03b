use Prim.Native.Nat.{◌+◌, ◌*◌, ◌≤◌}
use Rattle.made_tables.proofs.put_pair_table.Given as goal

abbrev pub invariant-loop-i : goal.invariant-loop-i
invariant-loop-i l = l.p ≤ 262144 + 65536 * l.i
