use Prim.Native.Nat.{◌+◌, ◌/◌, ◌%◌}
use native.Mathlib.Omega.{arith}
use lib.Pow.{pow_pos}
use Rattle.bits.proofs.Laws.{shifted}
use Rattle.ranks.specs.Ranks.{mark_cells}
use Rattle.ranks.proofs.Laws.{lowest_small, lowest_few, rank_read}
use Rattle.ranks.proofs.rank.Goals as goal

pub overflow_cast-below : goal.overflow_cast-below
overflow_cast-below c = omega (arith, c.type_inv.t (c.args.at + c.args.x / 32))

pub overflow_sub-below : goal.overflow_sub-below
overflow_sub-below c = omega (arith, shifted c.args.x, pow_pos (c.args.x % 32))

pub overflow_cast-result : goal.overflow_cast-result
overflow_cast-result c = omega (arith, c.type_inv.t (c.args.at + c.args.x / 32 + mark_cells))

pub overflow_cast-result-2 : goal.overflow_cast-result-2
overflow_cast-result-2 c =
    omega (arith, lowest_small c.args.t.now c.args.at c.args.x (omega (arith, c.type_inv.t (c.args.at + c.args.x / 32))))

pub overflow_cast-result-3 : goal.overflow_cast-result-3
overflow_cast-result-3 c =
    omega (arith, lowest_few c.args.t.now c.args.at c.args.x (omega (arith, c.type_inv.t (c.args.at + c.args.x / 32))))

pub overflow_add-result-2 : goal.overflow_add-result-2
overflow_add-result-2 c =
    let few = lowest_few c.args.t.now c.args.at c.args.x (omega (arith, c.type_inv.t (c.args.at + c.args.x / 32))) in
    omega (arith, few, c.type_inv.t (c.args.at + c.args.x / 32 + mark_cells))

pub returns : goal.returns
returns c = rank_read c.args.t.now c.args.at c.args.x
