use Prim.Native.Nat.{◌-◌, ◌/◌}
use mathlib.Core.Path.{◌≡◌}
use lib.ListN.{length}
use Rattle.names.proofs.Naming.{Naming}
use Rattle.names.proofs.named_by.Given as goal

abbrev pub invariant-loop-lookup : goal.invariant-loop-lookup
invariant-loop-lookup l = (l.many ≡ length l.list / 10) × Naming l.list l.buffer l.many l.lookup
