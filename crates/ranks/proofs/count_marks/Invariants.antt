use Prim.Native.Nat.{◌-◌}
use Rattle.ranks.specs.Ranks.{mark_cells}
use Rattle.ranks.proofs.Laws.{Counting}
use Rattle.ranks.proofs.count_marks.Given as goal

abbrev pub invariant-loop-i : goal.invariant-loop-i
invariant-loop-i l = Counting l.at l.initial.t l.t l.count l.i
