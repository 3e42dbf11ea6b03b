use Prim.Native.Nat.{◌-◌}
use native.Mathlib.Omega.{arith}
use Rattle.noted_runs.proofs.Spans.{ranging_all, ranging_past, ranging_asks, ranging_turn, ranging_end}
use Rattle.meet_runs.proofs.meet_ranges.Goals as goal

pub loop-i-init : goal.loop-i-init
loop-i-init c = ranging_all c.requires

pub overflow_mul-i : goal.overflow_mul-i
overflow_mul-i c = omega (arith, c.requires.inside, c.loop-i-test.true, c.well_formed)

pub overflow_add-at : goal.overflow_add-at
overflow_add-at c = omega (arith, c.requires.inside, c.loop-i-test.true, c.well_formed)

pub word_inside-first-requires : goal.word_inside-first-requires
word_inside-first-requires c = omega (arith, c.requires.inside, c.loop-i-test.true)

pub overflow_mul-i-in-loop-i : goal.overflow_mul-i-in-loop-i
overflow_mul-i-in-loop-i c = omega (arith, c.requires.inside, c.loop-i-test.true, c.well_formed)

pub overflow_add-at-in-loop-i : goal.overflow_add-at-in-loop-i
overflow_add-at-in-loop-i c = omega (arith, c.requires.inside, c.loop-i-test.true, c.well_formed)

pub overflow_add-at-in-loop-i-2 : goal.overflow_add-at-in-loop-i-2
overflow_add-at-in-loop-i-2 c = omega (arith, c.requires.inside, c.loop-i-test.true, c.well_formed)

pub word_inside-last-requires : goal.word_inside-last-requires
word_inside-last-requires c = omega (arith, c.requires.inside, c.loop-i-test.true)

pub overflow_mul-i-in-loop-i-2 : goal.overflow_mul-i-in-loop-i-2
overflow_mul-i-in-loop-i-2 c = omega (arith, c.requires.inside, c.loop-i-test.true, c.well_formed)

pub overflow_add-at-in-loop-i-3 : goal.overflow_add-at-in-loop-i-3
overflow_add-at-in-loop-i-3 c = omega (arith, c.requires.inside, c.loop-i-test.true, c.well_formed)

pub overflow_add-at-in-loop-i-4 : goal.overflow_add-at-in-loop-i-4
overflow_add-at-in-loop-i-4 c = omega (arith, c.requires.inside, c.loop-i-test.true, c.well_formed)

pub word_inside-index-requires : goal.word_inside-index-requires
word_inside-index-requires c = omega (arith, c.requires.inside, c.loop-i-test.true)

pub reach-e-requires : goal.reach-e-requires
reach-e-requires c = (
  c.requires.map,
  c.loop-i.invariant.reached,
  ranging_past c.requires c.loop-i.invariant c.loop-i-test.true c.word_inside-first.ensures.0 c.word_inside-last.ensures c.word_inside-index.ensures.0,
  omega (arith, c.word_inside-first.ensures.1),
)

pub meet_span-k-requires : goal.meet_span-k-requires
meet_span-k-requires c = ranging_asks c.requires c.loop-i.invariant c.loop-i-test.true c.word_inside-first.ensures.0 c.word_inside-last.ensures c.word_inside-index.ensures.0 c.reach-e.ensures

pub overflow_add-k : goal.overflow_add-k
overflow_add-k c = omega (arith, c.meet_span-k.ensures.few, (ranging_asks c.requires c.loop-i.invariant c.loop-i-test.true c.word_inside-first.ensures.0 c.word_inside-last.ensures c.word_inside-index.ensures.0 c.reach-e.ensures).room, c.well_formed)

pub loop-i-preserved : goal.loop-i-preserved
loop-i-preserved c =
    ranging_turn c.requires c.loop-i.invariant c.loop-i-test.true c.word_inside-first.ensures.0 c.word_inside-last.ensures c.word_inside-index.ensures.0 c.reach-e.ensures c.meet_span-k.ensures

pub shape_of-t : goal.shape_of-t
shape_of-t c = c.loop-i.invariant.kept.size

pub returns : goal.returns
returns c = ranging_end c.requires c.loop-i.invariant c.loop-i-test.false
