use Rattle.cover_differences.proofs.Rowing.{rowing_all, rowing_end, rowing_left, rowing_right, rowing_turn, rowing_differ}
use Prim.Native.Nat.{◌-◌}
use Rattle.cover_differences.proofs.same_covers.Goals as goal

pub loop-i-init : goal.loop-i-init
loop-i-init c =
    rowing_all c.requires.1 c.requires.2

pub same_glyphs-requires : goal.same_glyphs-requires
same_glyphs-requires c =
    (c.word_at-l.ensures.1, c.word_at-r.ensures.1, rowing_left c.loop-i.invariant c.loop-i-test.true c.word_at-l.ensures.0, rowing_right c.loop-i.invariant c.loop-i-test.true c.word_at-r.ensures.0)

pub returns-then-not-same_glyphs : goal.returns-then-not-same_glyphs
returns-then-not-same_glyphs c =
    rowing_differ c.loop-i.invariant c.loop-i-test.true c.word_at-l.ensures.0 c.word_at-r.ensures.0 c.same_glyphs.ensures c.if-not-same_glyphs.true

pub loop-i-preserved : goal.loop-i-preserved
loop-i-preserved c =
    rowing_turn c.loop-i.invariant c.loop-i-test.true c.word_at-l.ensures.0 c.word_at-r.ensures.0 c.same_glyphs.ensures c.if-not-same_glyphs.false

pub returns : goal.returns
returns c = rowing_end c.loop-i.invariant c.loop-i-test.false
