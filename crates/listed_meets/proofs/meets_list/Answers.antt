use Prim.Native.Nat.{◌-◌}
use Rattle.listed_meets.proofs.Answered.{listing_all, listing_hit, listing_turn, listing_end}
use Rattle.listed_meets.proofs.meets_list.Goals as goal

pub loop-i-init : goal.loop-i-init
loop-i-init c = listing_all

pub returns-then-entry-glyph : goal.returns-then-entry-glyph
returns-then-entry-glyph c = listing_hit c.loop-i.invariant c.loop-i-test.true c.word_inside-glyph.ensures.0 c.entry.ensures.0 c.if-entry-glyph.true

pub loop-i-preserved : goal.loop-i-preserved
loop-i-preserved c = listing_turn c.loop-i.invariant c.loop-i-test.true c.word_inside-glyph.ensures.0 c.entry.ensures.0 c.if-entry-glyph.false

pub returns : goal.returns
returns c = listing_end c.loop-i.invariant c.loop-i-test.false
