use Prim.Native.Nat.{◌-◌}
use Rattle.numbers.specs.Entries.{entries_in}
use Rattle.field_uses.proofs.Using.{Using}
use Rattle.field_uses.proofs.uses.Given as goal

abbrev pub invariant-notes : goal.invariant-notes
invariant-notes l = Using (entries_in l.t l.glyphs) l.src l.size l.place l.t l.at l.n l.i
