use Prim.Native.Nat.{◌/◌}
use lib.ListN.{length}
use Rattle.lookup_checks.proofs.Refusing.{Checking}
use Rattle.lookup_checks.proofs.check_lookups.Given as goal

abbrev pub invariant-loop-lookup : goal.invariant-loop-lookup
invariant-loop-lookup l = Checking l.list l.buffer (length l.list / 10) l.lookup
