use native.Mathlib.Omega.{arith}
use mathlib.Core.Path.{refl}
use Prim.Native.Nat.{◌+◌}
use Rattle.meaning.specs.Words.{word}
use Rattle.wire.proofs.word_inside.Goals as goal

pub overflow_mul-result : goal.overflow_mul-result
overflow_mul-result c = omega (arith, c.type_inv.s c.args.at)

pub overflow_add-result-2 : goal.overflow_add-result-2
overflow_add-result-2 c =
    omega (arith, c.type_inv.s c.args.at, c.type_inv.s (c.args.at + 1))

pub returns : goal.returns
unfolding word
returns c =
    (refl, omega (arith, c.type_inv.s c.args.at, c.type_inv.s (c.args.at + 1)))
