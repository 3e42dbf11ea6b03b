use Rattle.laws.specs.FaultsLeft.{checking_all, checking_null, checking_end}
use Rattle.check_parts.proofs.Seen.{reached_once}
use Rattle.check_parts.proofs.check_each.Goals as goal
use Rattle.check_parts.proofs.check_each.Goals.{then-off-ne0, else-off-ne0}

pub loop-i-init : goal.loop-i-init
loop-i-init c = record { lowest = checking_all _ _ _ _ _; seen = c.requires.1; marked = c.requires.2 }

pub loop-i-preserved : goal.loop-i-preserved
loop-i-preserved c =
    elim c.if-off-ne0.branch [
      | then-off-ne0 w ↦
          rw (w.marks-is, w.sound-is, w.low-is) (record {
            lowest = reached_once c.loop-i.invariant.lowest c.loop-i-test.true c.word_at-off.ensures.0 w.if-off-ne0.true w.check_once-low.ensures.0;
            seen = w.check_once-low.ensures.1;
            marked = w.check_once-low.ensures.2;
          })
      | else-off-ne0 w ↦
          rw (w.marks-is, w.sound-is, w.low-is) (record {
            lowest = checking_null _ _ _ _ _ c.loop-i.invariant.lowest c.loop-i-test.true c.word_at-off.ensures.0 w.if-off-ne0.false;
            seen = c.loop-i.invariant.seen;
            marked = c.loop-i.invariant.marked;
          })
    ]

pub returns : goal.returns
returns c = checking_end _ _ _ _ _ c.loop-i.invariant.lowest c.loop-i-test.false
