use mathlib.Core.Path.{ap, ◌∙◌}
use Prim.Native.Nat.{◌-◌}
use native.Mathlib.Omega.{arith}
use Rattle.std.proofs.lemmas.Result.{err_from_is_err_and}
use Rattle.room.specs.Laid.{room_enough}
use Rattle.area.specs.Part.{part}
use Rattle.handing.proofs.Moved.{hand_refused, hand_kept}
use lib.ListN.{length}
use lib.Seq.{length-sets}
use Rattle.handing.proofs.hand_over.Goals as goal

pub returns-in_err-size : goal.returns-in_err-size
returns-in_err-size c =
    let p = err_from_is_err_and c.from_residual.result c.from_residual.ensures.1 in
    rw (p.1, p.2) (hand_refused c.args.area.now c.args.head c.args.first (c.args.end - c.args.first) c.args.fits c.args.out.now c.in_err-size.ensures)

pub copy-requires : goal.copy-requires
copy-requires c =
    let room = room_enough _ _ _ c.in_ok-size.ensures in
    (omega (arith, c.requires), omega (arith, room))

pub copy-requires-2 : goal.copy-requires-2
copy-requires-2 c =
    let room = room_enough _ _ _ c.in_ok-size.ensures in
    let same = length-sets c.args.out.now 0 (part c.args.area.now 0 c.args.head) in
    (omega (arith, c.requires), omega (arith, room, ap length c.copy.ensures ∙ same))

pub returns : goal.returns
returns c =
    hand_kept c.args.area.now c.args.head c.args.first (c.args.end - c.args.first) c.args.fits c.args.out.now c.in_ok-size.ensures c.copy.ensures c.copy-2.ensures
