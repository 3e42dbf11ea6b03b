use Rattle.class_lists.proofs.Listing.{Filling}
use Rattle.class_lists.proofs.fill.Given as goal

abbrev pub invariant-loop-e : goal.invariant-loop-e
invariant-loop-e l = Filling l.form l.glyphs l.glyph l.found l.initial.t l.t l.cell l.e l.from l.to
