use Prim.Native.Nat.{◌-◌}
use Rattle.coverage_glyphs.proofs.Reading.{Seeking}
use Rattle.coverage_glyphs.proofs.range_glyph.Given as goal

abbrev pub invariant-loop-lo : goal.invariant-loop-lo
invariant-loop-lo l = Seeking l.src l.at l.n l.i l.lo l.hi

abbrev pub decreases-loop-lo : goal.decreases-loop-lo
decreases-loop-lo l = l.hi - l.lo
