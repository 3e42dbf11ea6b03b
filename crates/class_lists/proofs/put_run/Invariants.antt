use Rattle.class_lists.proofs.Listing.{Putting}
use mathlib.Core.Path.{◌≡◌}
use Prim.Native.Nat.{◌+◌}
use Rattle.class_lists.proofs.put_run.Given as goal

abbrev pub invariant-loop-i : goal.invariant-loop-i
invariant-loop-i l = (l.past ≡ l.cell + l.n) × Putting l.initial.t l.t l.cell l.new l.n l.class l.i
