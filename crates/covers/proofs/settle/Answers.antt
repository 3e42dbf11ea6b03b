use Rattle.std.proofs.Common.{Ok, Err}
use Rattle.std.proofs.lemmas.Result.{err_from_is_err_and}
use Rattle.cover_layouts.proofs.Cut.{hands_nothing, hands_no_room, hands_over}
use Rattle.covers.proofs.settle.Goals as goal

pub returns-then-end-eq0 : goal.returns-then-end-eq0
returns-then-end-eq0 c = hands_nothing c.if-end-eq0.true

pub returns-then-area-end : goal.returns-then-area-end
returns-then-area-end c = hands_no_room c.if-area-end.true c.no_room.ensures

pub returns-in_err-hand_over : goal.returns-in_err-hand_over
returns-in_err-hand_over c =
    let p = err_from_is_err_and c.from_residual.result c.from_residual.ensures.1 in
    rw (p.1, p.2) (hands_over (Err _) c.if-end-eq0.false c.if-area-end.false c.in_err-hand_over.ensures)

pub returns : goal.returns
returns c = hands_over (Ok _) c.if-end-eq0.false c.if-area-end.false c.in_ok-hand_over.ensures
