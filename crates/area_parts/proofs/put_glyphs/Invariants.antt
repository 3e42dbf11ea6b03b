use Rattle.area_parts.proofs.Cover.{Listing}
use Rattle.area_parts.proofs.put_glyphs.Given as goal

abbrev pub invariant-loop-i : goal.invariant-loop-i
invariant-loop-i l = Listing l.t l.at l.n l.initial.area l.to l.area l.p l.i
