use Rattle.class_spots.proofs.Settling.{Settling}
use Rattle.class_slots.proofs.settle_slots.Given as goal

abbrev pub invariant-loop-i : goal.invariant-loop-i
invariant-loop-i l = Settling l.p l.at l.n l.initial.area l.area l.i
