use Rattle.single_pairs.proofs.Keeping.{wraps_back}
use Rattle.std.proofs.Common.{arith}
use Rattle.single_pairs.proofs.difference.Goals as goal

pub overflow_cast-c : goal.overflow_cast-c
overflow_cast-c c =
    omega (arith, c.type_inv.t c.args.i)

pub overflow_cast-c-2 : goal.overflow_cast-c-2
overflow_cast-c-2 c =
    omega (arith, c.type_inv.t c.args.i)

pub returns : goal.returns
returns c =
    let g = c.type_inv.t c.args.i in
    wraps_back _ _ _ (omega arith) (omega (arith, g)) (omega arith) c.wrapping_sub_u16.ensures.value
