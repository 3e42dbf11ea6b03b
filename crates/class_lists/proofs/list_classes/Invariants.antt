use Rattle.class_lists.proofs.Listing.{Listing}
use Prim.Native.Nat.{◌-◌}
use Rattle.class_lists.proofs.list_classes.Given as goal

abbrev pub invariant-loop-run : goal.invariant-loop-run
invariant-loop-run l = Listing l.src l.at l.form l.glyphs l.initial.t l.t l.list l.high l.zero l.next l.from l.run l.cell

abbrev pub decreases-loop-run : goal.decreases-loop-run
decreases-loop-run l = 65536 - l.from
