use Rattle.numbers.specs.Entries.{entries_in}
use Rattle.pair_fields.proofs.Pairing.{Using}
use Rattle.pair_fields.proofs.field_used.Given as goal

abbrev pub invariant-loop-i : goal.invariant-loop-i
invariant-loop-i l = Using (entries_in l.t l.glyphs) l.src l.size l.place l.at l.n l.i
