use Rattle.differences.specs.Entries.{pair_entries}
use Rattle.listing.specs.Listed.{Through}
use Rattle.first_glyphs.specs.First.{at_glyph}
use Rattle.pair_differences.specs.Whole.{pairs_in}
use Rattle.pair_differences.proofs.list_pairs.Given as goal

abbrev pub invariant-loop-g : goal.invariant-loop-g
invariant-loop-g l = Through (at_glyph pair_entries (pairs_in l.left) (pairs_in l.right)) 65536 0x100_0000 l.initial.out l.pos l.out l.at l.g
