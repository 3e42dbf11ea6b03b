use mathlib.Core.Path.{ap, ◌∙◌}
use Prim.Native.Nat.{ℕ, ◌-◌, ◌*◌}
use native.Mathlib.Omega.{arith}
use lib.ListN.{length}
use Rattle.numbers.specs.Entries.{entries_in}
use Rattle.numbers.proofs.Numbers.{found_in}
use Rattle.class_formats.proofs.Using.{mul_small}
use Rattle.class_cells.proofs.Writing.{rows_all, rows_row, rows_inside, row_gone, row_kept, rows_full, rows_turn, rows_end, rows_silent}
use Rattle.class_cells.proofs.write_rows.Goals as goal
use Rattle.class_cells.proofs.write_rows.Goals.{in-Some, in_default}

pub returns-then-places-eq0 : goal.returns-then-places-eq0
returns-then-places-eq0 c =
    rows_silent (entries_in c.args.t.now c.args.firsts) (entries_in c.args.t.now c.args.seconds) c.args.src.now c.args.size c.args.places.now c.if-places-eq0.true c.requires.4

pub word_inside-n-requires : goal.word_inside-n-requires
word_inside-n-requires c = omega (arith, c.requires.0.header)

pub word_inside-requires : goal.word_inside-requires
word_inside-requires c = omega (arith, c.requires.0.header)

pub overflow_mul-row : goal.overflow_mul-row
overflow_mul-row c = omega (arith, mul_small c.args.size c.word_inside.result c.requires.0.small, c.word_inside.ensures.1)

pub loop-c-init : goal.loop-c-init
loop-c-init c = rows_all c.word_inside-n.ensures.0 (ap (λ (x : ℕ). c.args.size * x) c.word_inside.ensures.0) c.requires.0 c.requires.4

pub find-requires : goal.find-requires
find-requires c = c.requires.2

pub write_row-q-requires : goal.write_row-q-requires
write_row-q-requires c =
    (rows_inside c.loop-c.invariant c.loop-c-test.true c.requires.0.header, c.requires.1, c.requires.3, c.loop-c.invariant.room)

pub shape_of-area-then-area-q : goal.shape_of-area-then-area-q
shape_of-area-then-area-q c =
    elim c.match-find.branch [
      | in-Some w ↦ ap length w.area-is ∙ w.write_row-q.ensures.same ∙ c.loop-c.invariant.same
      | in_default w ↦ ap length w.area-is ∙ c.loop-c.invariant.same
    ]

pub returns-then-area-q : goal.returns-then-area-q
returns-then-area-q c =
    elim c.match-find.branch [
      | in-Some w ↦ rw (w.area-is, w.q-is) (rows_full c.loop-c.invariant c.loop-c-test.true (row_kept c.loop-c.invariant c.loop-c-test.true (found_in _ c.requires.2 w.in-Some.ensures.answer) w.write_row-q.ensures) (rw (w.area-is, w.q-is) at c.if-area-q.true))
      | in_default w ↦ rw (w.area-is, w.q-is) (rows_full c.loop-c.invariant c.loop-c-test.true (row_gone c.loop-c.invariant c.loop-c-test.true (found_in _ c.requires.2 w.in_default.ensures.answer)) (rw (w.area-is, w.q-is) at c.if-area-q.true))
    ]

pub overflow_add-p : goal.overflow_add-p
overflow_add-p c = omega (arith, rows_row c.loop-c.invariant c.loop-c-test.true)

pub loop-c-preserved : goal.loop-c-preserved
loop-c-preserved c =
    elim c.match-find.branch [
      | in-Some w ↦ rw (w.area-is, w.q-is) (rows_turn c.loop-c.invariant c.loop-c-test.true (row_kept c.loop-c.invariant c.loop-c-test.true (found_in _ c.requires.2 w.in-Some.ensures.answer) w.write_row-q.ensures) (rw (w.area-is, w.q-is) at c.if-area-q.false))
      | in_default w ↦ rw (w.area-is, w.q-is) (rows_turn c.loop-c.invariant c.loop-c-test.true (row_gone c.loop-c.invariant c.loop-c-test.true (found_in _ c.requires.2 w.in_default.ensures.answer)) (rw (w.area-is, w.q-is) at c.if-area-q.false))
    ]

pub shape_of-area : goal.shape_of-area
shape_of-area c = c.loop-c.invariant.same

pub returns : goal.returns
returns c = rows_end c.loop-c.invariant c.loop-c-test.false
