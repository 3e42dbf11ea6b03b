use Rattle.differences.specs.Entries.{at_field}
use Rattle.listing.specs.Listed.{Through}
use Rattle.value_differences.specs.Held.{values_at}
use Rattle.value_differences.proofs.list_fields.Given as goal

abbrev pub invariant-loop-i : goal.invariant-loop-i
invariant-loop-i l = Through (at_field l.g l.second (values_at l.left l.p) (values_at l.right l.q)) 8 12 l.initial.out l.pos l.out l.at l.i
