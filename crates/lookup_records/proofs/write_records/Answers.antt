use native.Mathlib.Omega.{arith}
use Rattle.numbers.proofs.Numbers.{recording_all, recording_one, recording_none, recording_end, found_in}
use Rattle.lookup_records.proofs.write_records.Goals as goal
use Rattle.lookup_records.proofs.write_records.Goals.{in-Some, in_default}

pub loop-i-init : goal.loop-i-init
loop-i-init c = recording_all (omega arith)

pub loop-i-preserved : goal.loop-i-preserved
loop-i-preserved c =
    elim c.match-find.branch [
      | in-Some w ↦ rw (w.area-is, w.p-is) (recording_one c.loop-i.invariant c.loop-i-test.true c.word_inside-old.ensures.0 (found_in _ c.requires.1 w.in-Some.ensures.answer) w.word_inside.ensures.0 w.put_two-p.ensures)
      | in_default w ↦ rw (w.area-is, w.p-is) (recording_none c.loop-i.invariant c.loop-i-test.true c.word_inside-old.ensures.0 (found_in _ c.requires.1 w.in_default.ensures.answer))
    ]

pub returns : goal.returns
returns c = recording_end c.loop-i.invariant c.loop-i-test.false
