use Prim.Native.Nat.{◌<◌}
use native.Mathlib.Omega.{arith}
use Rattle.meet.proofs.Asking.{asking_all, asking_small, asking_one, asking_none, asking_end}
use Rattle.meet.proofs.meet_entries.Goals as goal
use Rattle.meet.proofs.meet_entries.Goals.{in-Some, in_default}
use Rattle.meet.proofs.meet_entries.Goals.{In-Some}

pub loop-e-init : goal.loop-e-init
loop-e-init c = asking_all

pub index_of-requires : goal.index_of-requires
index_of-requires c = (c.requires.sound, c.word_inside.ensures.1)

-- the index is a word
small : (c : In-Some) → c.in-Some.i < 65536
small c =
    asking_small c.requires c.loop-e.invariant c.loop-e-test.true c.word_inside.ensures.0 c.in-Some.ensures c.word_inside.ensures.1

pub overflow_mul-t : goal.overflow_mul-t
overflow_mul-t c = omega (arith, small (goal.at.overflow_mul-t c).In-Some)

pub overflow_add-t : goal.overflow_add-t
overflow_add-t c = omega (arith, small (goal.at.overflow_add-t c).In-Some)

pub overflow_cast-t : goal.overflow_cast-t
overflow_cast-t c = omega (arith, small (goal.at.overflow_cast-t c).In-Some)

pub loop-e-preserved : goal.loop-e-preserved
loop-e-preserved c =
    elim c.match-index_of.branch [
      | in-Some w ↦ rw (w.t-is, w.k-is) (asking_one c.requires c.loop-e.invariant c.loop-e-test.true c.word_inside.ensures.0 w.in-Some.ensures w.word_inside-in-Some.ensures.0 w.word_inside-in-Some.ensures.1)
      | in_default w ↦ rw (w.t-is, w.k-is) (asking_none c.requires c.loop-e.invariant c.loop-e-test.true c.word_inside.ensures.0 w.in_default.ensures)
    ]

pub shape_of-t : goal.shape_of-t
shape_of-t c = c.loop-e.invariant.kept.size

pub returns : goal.returns
returns c = asking_end c.requires c.loop-e.invariant c.loop-e-test.false
