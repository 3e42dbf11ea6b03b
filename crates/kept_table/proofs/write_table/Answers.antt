use Rattle.std.proofs.lemmas.Result.{err_from_is_err_and}
use mathlib.Core.Path.{◌∙◌}
use Prim.Native.Nat.{◌+◌, ◌*◌}
use native.Mathlib.Omega.{arith}
use Rattle.kept_header.proofs.Joining.{answered_short, short_sets, none_kept, may_finish, short_table, table_laid, laid_none}
use Rattle.kept_table.proofs.write_table.Goals as goal

pub returns-then-area-p : goal.returns-then-area-p
returns-then-area-p c =
    answered_short c.no_room.ensures c.write_sets-sets.ensures.same (short_sets c.requires.0 c.write_sets-sets.ensures _ c.if-area-p.true)

pub returns-then-k-eq0 : goal.returns-then-k-eq0
returns-then-k-eq0 c = record { answer = laid_none _ (none_kept c.requires.0 c.write_sets-sets.ensures c.if-area-p.false c.if-k-eq0.true) }

pub finish-end-requires : goal.finish-end-requires
finish-end-requires c = may_finish c.requires.0 c.write_sets-sets.ensures c.if-area-p.false c.if-k-eq0.false (omega (arith, c.header_size-slots.ensures.0)) c.requires.1

pub returns-then-area-end : goal.returns-then-area-end
returns-then-area-end c =
    answered_short c.no_room-then-area-end.ensures (c.finish-end.ensures.same ∙ c.write_sets-sets.ensures.same) (short_table c.requires.0 c.write_sets-sets.ensures c.if-area-p.false c.if-k-eq0.false (omega (arith, c.header_size-slots.ensures.0)) c.finish-end.ensures _ c.if-area-end.true)

pub overflow_mul-head : goal.overflow_mul-head
overflow_mul-head c =
    let f = may_finish c.requires.0 c.write_sets-sets.ensures c.if-area-p.false c.if-k-eq0.false {first = c.header_size-slots.result + 2 * c.args.notes.count} (omega (arith, c.header_size-slots.ensures.0)) c.requires.1 in
    omega (arith, f.behind)

pub overflow_add-head : goal.overflow_add-head
overflow_add-head c =
    let f = may_finish c.requires.0 c.write_sets-sets.ensures c.if-area-p.false c.if-k-eq0.false {first = c.header_size-slots.result + 2 * c.args.notes.count} (omega (arith, c.header_size-slots.ensures.0)) c.requires.1 in
    omega (arith, f.behind, c.header_size-slots.ensures)

pub cover_fits-fits-requires : goal.cover_fits-fits-requires
cover_fits-fits-requires c =
    let f = may_finish c.requires.0 c.write_sets-sets.ensures c.if-area-p.false c.if-k-eq0.false {first = c.header_size-slots.result + 2 * c.args.notes.count} (omega (arith, c.header_size-slots.ensures.0)) c.requires.1 in
    (omega (arith, f.behind, c.header_size-slots.ensures.0), f.start)

pub hand_over-requires : goal.hand_over-requires
hand_over-requires c =
    let f = may_finish c.requires.0 c.write_sets-sets.ensures c.if-area-p.false c.if-k-eq0.false {first = c.header_size-slots.result + 2 * c.args.notes.count} (omega (arith, c.header_size-slots.ensures.0)) c.requires.1 in
    (omega (arith, f.behind, c.header_size-slots.ensures.0), omega (arith, f.start, c.finish-end.ensures.start (omega (arith, c.finish-end.ensures.same))), omega arith)

pub returns-in_err-hand_over : goal.returns-in_err-hand_over
returns-in_err-hand_over c =
    let p = err_from_is_err_and c.from_residual.result c.from_residual.ensures.1 in
    rw (p.1, p.2) (record { answer = table_laid c.requires.0 c.write_sets-sets.ensures c.if-area-p.false c.if-k-eq0.false (omega (arith, c.header_size-slots.ensures.0)) c.finish-end.ensures c.if-area-end.false (omega (arith, c.header_size-slots.ensures.0)) c.cover_fits-fits.ensures _ c.in_err-hand_over.ensures })

pub returns : goal.returns
returns c = record { answer = table_laid c.requires.0 c.write_sets-sets.ensures c.if-area-p.false c.if-k-eq0.false (omega (arith, c.header_size-slots.ensures.0)) c.finish-end.ensures c.if-area-end.false (omega (arith, c.header_size-slots.ensures.0)) c.cover_fits-fits.ensures _ c.in_ok-hand_over.ensures }
