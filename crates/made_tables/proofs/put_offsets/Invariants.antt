use Prim.Native.Nat.{◌+◌, ◌*◌, ◌≤◌}
use Rattle.made_tables.proofs.put_offsets.Given as goal

abbrev pub invariant-loop-i : goal.invariant-loop-i
invariant-loop-i l = l.offset ≤ 65536 * (l.i + 3)
