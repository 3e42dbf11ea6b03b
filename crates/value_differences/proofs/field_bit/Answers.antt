use mathlib.Core.Path.{◌≡◌, refl}
use native.Mathlib.Omega.{arith}
use Rattle.value_differences.proofs.field_bit.Goals as goal

pub returns-in_default : goal.returns-in_default
returns-in_default c =
    let e : c.args.i ≡ 3 = omega arith in
    (rw e, refl)
