use Rattle.cover_parts.proofs.Rows.{Rowing}
use Rattle.meaning.specs.Maps.{glyph_entries}
use Prim.Native.Nat.{◌-◌}
use Rattle.cover_rows.proofs.write_row.Given as goal

abbrev pub invariant-loop-i : goal.invariant-loop-i
invariant-loop-i l = Rowing (glyph_entries l.held.form l.glyphs) l.src l.row l.held.map l.initial.t l.initial.area l.places l.initial.book l.t l.area l.book l.p l.i
