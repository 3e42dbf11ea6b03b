use Rattle.std.proofs.lemmas.Result.{err_from_is_err_and}
use Rattle.class_slots.proofs.Turns.{wrote_said}
use Rattle.class_places.specs.Places.{slots_near}
use Rattle.tried.specs.Tries.{room_told}
use Rattle.class_booked.proofs.Handing.{mode_kept, enough_kept, finished_said, short_slots, none_left, may_finish, short_table, first_near, table_laid}
use mathlib.Core.Path.{◌∙◌}
use native.Mathlib.Omega.{arith}
use Rattle.class_booked.proofs.write_booked.Goals as goal

pub returns-then-area-slots : goal.returns-then-area-slots
returns-then-area-slots c = room_told c.no_room.ensures c.write_slots-slots.ensures.0.same (short_slots c.requires.0 (wrote_said c.requires.2.mode c.write_slots-slots.ensures.0) c.args.out.now c.if-area-slots.true)

pub returns-then-slots-eq0 : goal.returns-then-slots-eq0
returns-then-slots-eq0 c = none_left c.requires.0 (wrote_said c.requires.2.mode c.write_slots-slots.ensures.0) c.args.out.now c.if-area-slots.false c.if-slots-eq0.true

pub finish-end-requires : goal.finish-end-requires
finish-end-requires c = (may_finish c.requires.0 (wrote_said c.requires.2.mode c.write_slots-slots.ensures.0) c.args.out.now c.if-area-slots.false c.if-slots-eq0.false, enough_kept c.book-1.given c.requires.2.enough)

pub returns-then-area-end : goal.returns-then-area-end
returns-then-area-end c = room_told c.no_room-then-area-end.ensures (c.finish-end.ensures.same ∙ c.write_slots-slots.ensures.0.same) (short_table c.requires.0 (wrote_said c.requires.2.mode c.write_slots-slots.ensures.0) c.args.out.now c.if-area-slots.false c.if-slots-eq0.false (finished_said (mode_kept c.book-1.given c.requires.2.mode) c.finish-end.ensures) c.if-area-end.true)

pub overflow_mul-slots : goal.overflow_mul-slots
overflow_mul-slots c =
    let f = may_finish c.requires.0 (wrote_said c.requires.2.mode c.write_slots-slots.ensures.0) c.args.out.now c.if-area-slots.false c.if-slots-eq0.false in
    omega (arith, f.few, f.low)

pub overflow_add-at : goal.overflow_add-at
overflow_add-at c =
    let f = may_finish c.requires.0 (wrote_said c.requires.2.mode c.write_slots-slots.ensures.0) c.args.out.now c.if-area-slots.false c.if-slots-eq0.false in
    omega (arith, f.few, f.low, c.slots_at-at.ensures, slots_near c.args.prepared.tail.chained)

pub overflow_mul-classes : goal.overflow_mul-classes
overflow_mul-classes c = omega (arith, c.requires.0.few)

pub overflow_add-at-2 : goal.overflow_add-at-2
overflow_add-at-2 c = omega (arith, c.requires.0.few, c.slots_at-at.ensures, slots_near c.args.prepared.tail.chained)

pub hand_over-requires : goal.hand_over-requires
hand_over-requires c =
    let f = may_finish c.requires.0 (wrote_said c.requires.2.mode c.write_slots-slots.ensures.0) c.args.out.now c.if-area-slots.false c.if-slots-eq0.false in
    let n = first_near c.requires.0 (wrote_said c.requires.2.mode c.write_slots-slots.ensures.0) c.args.out.now c.if-area-slots.false c.if-slots-eq0.false (finished_said (mode_kept c.book-1.given c.requires.2.mode) c.finish-end.ensures) c.if-area-end.false in
    (omega (arith, f.few), omega (arith, n, c.slots_at-at.ensures), c.if-area-end.false)

pub returns-in_err-hand_over : goal.returns-in_err-hand_over
returns-in_err-hand_over c =
    let p = err_from_is_err_and c.from_residual.result c.from_residual.ensures.1 in
    rw (p.1, p.2) (table_laid c.requires.0 (wrote_said c.requires.2.mode c.write_slots-slots.ensures.0) c.args.out.now c.if-area-slots.false c.if-slots-eq0.false (finished_said (mode_kept c.book-1.given c.requires.2.mode) c.finish-end.ensures) c.if-area-end.false c.slots_at-at.ensures c.in_err-hand_over.ensures)

pub returns : goal.returns
returns c = table_laid c.requires.0 (wrote_said c.requires.2.mode c.write_slots-slots.ensures.0) c.args.out.now c.if-area-slots.false c.if-slots-eq0.false (finished_said (mode_kept c.book-1.given c.requires.2.mode) c.finish-end.ensures) c.if-area-end.false c.slots_at-at.ensures c.in_ok-hand_over.ensures
