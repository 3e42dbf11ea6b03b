use Prim.Native.Nat.{◌-◌}
use Rattle.cover_parts.proofs.Notes.{Counting}
use Rattle.cover_parts.proofs.most_row.Given as goal

abbrev pub invariant-loop-i : goal.invariant-loop-i
invariant-loop-i l = Counting l.form l.glyphs l.src l.row l.least l.r l.i
