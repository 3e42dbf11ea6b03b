use Rattle.range_meets.proofs.Ranges.{ranging_all, ranging_asks, ranging_turn, ranging_out, ranging_end}
use Prim.Native.Nat.{◌-◌}
use Rattle.meet_ranges.proofs.meet_ranges.Goals as goal

pub loop-i-init : goal.loop-i-init
loop-i-init c = ranging_all c.requires

pub shape_of-t-then-glyphs-e : goal.shape_of-t-then-glyphs-e
shape_of-t-then-glyphs-e c = c.loop-i.invariant.kept.size

pub returns-then-glyphs-e : goal.returns-then-glyphs-e
returns-then-glyphs-e c = ranging_out c.requires c.loop-i.invariant c.if-glyphs-e.true

pub meet_range-met-requires : goal.meet_range-met-requires
meet_range-met-requires c =
    ranging_asks c.requires c.loop-i.invariant c.loop-i-test.true c.word_inside-first.ensures.0 c.word_inside-last.ensures.0 c.word_inside-index.ensures.0 c.reach-from.ensures

pub loop-i-preserved : goal.loop-i-preserved
loop-i-preserved c =
    ranging_turn c.requires c.loop-i.invariant c.loop-i-test.true c.word_inside-first.ensures.0 c.word_inside-last.ensures.0 c.word_inside-index.ensures.0 c.reach-from.ensures c.meet_range-met.ensures

pub shape_of-t : goal.shape_of-t
shape_of-t c = c.loop-i.invariant.kept.size

pub returns : goal.returns
returns c = ranging_end c.requires c.loop-i.invariant c.loop-i-test.false
