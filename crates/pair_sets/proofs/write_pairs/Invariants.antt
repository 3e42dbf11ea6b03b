use Rattle.numbers.specs.Entries.{entries_in}
use Rattle.pair_fields.proofs.Pairing.{Pairing}
use Rattle.pair_sets.proofs.write_pairs.Given as goal

abbrev pub invariant-loop-i : goal.invariant-loop-i
invariant-loop-i l = Pairing (entries_in l.t l.glyphs) l.src l.size l.places l.at l.n l.initial.area l.pos l.area l.k l.q l.p l._i
