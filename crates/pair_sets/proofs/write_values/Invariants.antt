use Rattle.pair_fields.proofs.Pairing.{Valuing}
use Rattle.pair_sets.proofs.write_values.Given as goal

abbrev pub invariant-loop-i : goal.invariant-loop-i
invariant-loop-i l = Valuing l.src l.p l.places l.initial.area l.pos l.area l.i
