use Rattle.cover_differences.proofs.Stretching.{walking_all, walking_end, walking_more, walking_differ, walking_left, walking_right, walking_both}
use native.Mathlib.Omega.{arith}
use Rattle.cover_differences.proofs.same_glyphs.Goals as goal

pub stretches-init : goal.stretches-init
stretches-init c =
    walking_all c.count_at-m.ensures c.requires.2 c.count_at-n.ensures c.requires.3

pub returns-then-n-j : goal.returns-then-n-j
returns-then-n-j c = walking_more c.stretches.invariant c.stretches-test.true c.if-n-j.true

pub returns-then-p-q : goal.returns-then-p-q
returns-then-p-q c =
    walking_differ c.stretches.invariant c.stretches-test.true (omega arith) c.first_at.ensures c.max-p.ensures c.first_at-in-stretches.ensures c.max-q.ensures c.if-p-q.true

pub stretches-preserved-then-z-y : goal.stretches-preserved-then-z-y
stretches-preserved-then-z-y c =
    walking_left c.stretches.invariant c.stretches-test.true (omega arith) c.first_at.ensures c.max-p.ensures c.first_at-in-stretches.ensures c.max-q.ensures (omega arith) c.last_at-z.ensures c.last_at-y.ensures c.if-z-y.true

pub stretches-preserved-then-y-z : goal.stretches-preserved-then-y-z
stretches-preserved-then-y-z c =
    walking_right c.stretches.invariant c.stretches-test.true (omega arith) c.first_at.ensures c.max-p.ensures c.first_at-in-stretches.ensures c.max-q.ensures (omega arith) c.last_at-z.ensures c.last_at-y.ensures c.if-y-z.true

pub stretches-preserved : goal.stretches-preserved
stretches-preserved c =
    walking_both c.stretches.invariant c.stretches-test.true (omega arith) c.first_at.ensures c.max-p.ensures c.first_at-in-stretches.ensures c.max-q.ensures (omega arith) c.last_at-z.ensures c.last_at-y.ensures (omega arith)

pub returns : goal.returns
returns c = walking_end c.stretches.invariant c.stretches-test.false
