-- A stored call has at least 16 bytes and adds at most three that agree; each turn leaves less of the file.
use Rattle.std.proofs.Common.{length, ◌-◌, ◌*◌, ◌≤◌}
use Rattle.vectors.proofs.run.Given as goal

abbrev pub invariant-loop-at : goal.invariant-loop-at
invariant-loop-at g l = (l.at ≤ length l.file) × (16 * l.index ≤ l.at) × (l.agreeing ≤ 3 * l.index)

abbrev pub decreases-loop-at : goal.decreases-loop-at
decreases-loop-at g l = length l.file - l.at
