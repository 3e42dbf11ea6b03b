use mathlib.Core.List.{[], ◌∷◌}
use Prim.Native.Nat.{◌/◌}
use Rattle.meaning.specs.Job.{hex_digit}
use Rattle.report_lines.proofs.Writing.{left_all, left_put, left_end}
use Rattle.report_lines.proofs.put_hex.Goals as goal

pub returns : goal.returns
returns c =
    let high = rw c.hex_digit.ensures.0 at c.put_one-p.ensures in
    let low = rw c.hex_digit-2.ensures.0 at c.put_one.ensures in
    left_end (left_put {xs = hex_digit (c.args.b / 16) ∷ []} left_all high) low
