use Prim.Native.Nat.{◌-◌}
use Rattle.meets.proofs.Seeking.{Seeking}
use Rattle.meets.proofs.meets_ranges.Given as goal

abbrev pub invariant-loop-i : goal.invariant-loop-i
invariant-loop-i l = Seeking l.src l.at l.n l.form l.glyphs l.e l.i
