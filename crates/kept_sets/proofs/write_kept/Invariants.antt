use mathlib.Core.Path.{◌≡◌}
use Prim.Native.Nat.{◌+◌, ◌*◌, ◌<◌}
use lib.ListN.{length}
use Rattle.kept_rules.specs.Left.{maps_in}
use Rattle.placed_sets.specs.Sorts.{left_in, Told}
use Rattle.kept_sets.proofs.Keeping.{Keeping}
use Rattle.kept_sets.proofs.write_kept.Given as goal

abbrev pub invariant-loop-i : goal.invariant-loop-i
invariant-loop-i l =
    Keeping (left_in l.sort l.initial.t l.maps l.src) l.src l.slots l.initial.t l.notes.at l.m l.initial.area l.initial.book l.t l.area l.book l.k l.p l.i × Told l.sort (maps_in l.initial.t l.maps) l.src l.told × (length l.told ≡ length l.initial.told) × (4 * (l.notes.at + l.m) < 0x1_0000_0000_0000_0000)
