use lib.Dec.{eqb}
use Rattle.differences.specs.Entries.{rule_entries}
use Rattle.first_glyphs.specs.First.{at_glyph}
use Rattle.set_differences.proofs.Going.{Going}
use Rattle.glyph_differences.specs.Slots.{numbers_by}
use Prim.Native.Nat.{◌-◌}
use Rattle.glyph_differences.proofs.list_numbered.Given as goal

abbrev pub invariant-loop-g : goal.invariant-loop-g
invariant-loop-g l = Going (at_glyph (rule_entries eqb) (numbers_by l.num l.left 0) (numbers_by l.num l.right 1)) l.num l.left l.right l.initial.out l.initial.nums l.initial.heads l.initial.links l.out l.nums l.heads l.links l.at l.g
