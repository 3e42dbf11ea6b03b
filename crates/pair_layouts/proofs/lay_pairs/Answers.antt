use Rattle.std.proofs.Common.{Ok, Err}
use Rattle.std.proofs.lemmas.Result.{err_from_is_err_and}
use mathlib.Core.Path.{refl, ◌∙◌}
use Rattle.meaning.specs.Subset.{limit}
use Rattle.tried.specs.Tries.{room_told}
use Rattle.pair_layouts.proofs.Laying.{no_header, no_cells, no_tail, ordered, left_laid}
use Rattle.pair_layouts.proofs.lay_pairs.Goals as goal

pub returns-then-area-lt16 : goal.returns-then-area-lt16
returns-then-area-lt16 c =
    (no_header c.args.area.now c.if-area-lt16.true, refl)

pub returns-then-area-p : goal.returns-then-area-p
unfolding limit
returns-then-area-p c =
    room_told c.no_room.ensures c.write_cells-p.ensures.same (no_cells c.args.packing c.args.src.now c.args.t.now c.args.cover c.args.first c.args.second c.new_formats-f.ensures c.args.out.now c.write_cells-p.ensures c.if-area-p.true)

pub returns-then-area-ends : goal.returns-then-area-ends
unfolding limit
returns-then-area-ends c =
    room_told c.no_room-then-area-ends.ensures (c.write_tail-ends.ensures.same ∙ c.write_cells-p.ensures.same) (no_tail c.args.packing c.args.src.now c.args.t.now c.args.cover c.args.first c.args.second c.new_formats-f.ensures c.args.out.now c.write_cells-p.ensures c.if-area-p.false c.write_tail-ends.ensures c.if-area-ends.true)

pub fits-requires : goal.fits-requires
fits-requires c =
    ordered c.args.packing c.args.src.now c.args.t.now c.args.cover c.args.first c.args.second c.new_formats-f.ensures c.args.out.now c.write_cells-p.ensures c.if-area-p.false c.write_tail-ends.ensures c.if-area-ends.false

pub returns-in_err-hand_over : goal.returns-in_err-hand_over
returns-in_err-hand_over c =
    let p = err_from_is_err_and c.from_residual.result c.from_residual.ensures.1 in
    rw (p.1, p.2) (left_laid c.args.packing c.args.src.now c.args.t.now c.args.cover c.args.first c.args.second c.new_formats-f.ensures c.args.out.now c.write_cells-p.ensures c.if-area-p.false c.write_tail-ends.ensures c.if-area-ends.false (Err _) c.hand_over.new.out c.write_head.ensures c.fits.ensures c.in_err-hand_over.ensures)

pub returns : goal.returns
returns c =
    left_laid c.args.packing c.args.src.now c.args.t.now c.args.cover c.args.first c.args.second c.new_formats-f.ensures c.args.out.now c.write_cells-p.ensures c.if-area-p.false c.write_tail-ends.ensures c.if-area-ends.false (Ok _) c.hand_over.new.out c.write_head.ensures c.fits.ensures c.in_ok-hand_over.ensures
