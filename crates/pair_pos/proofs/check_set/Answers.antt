use Prim.Native.Nat.{◌*◌, ◌<◌}
use native.Mathlib.Omega.{arith}
use Rattle.pair_pos.proofs.Sizes.{records_small}
use Rattle.pair_pos.proofs.check_set.Goals as goal
use Rattle.pair_pos.proofs.check_set.Goals.{After-pair_size-size}

-- the records' bytes are few
few : (c : After-pair_size-size) → c.pair_size-size.result * c.word_at-n.result < 0x100_0000
few c = records_small c.pair_size-size.result c.word_at-n.result c.pair_size-size.ensures.1 c.word_at-n.ensures.1

pub overflow_mul-size : goal.overflow_mul-size
overflow_mul-size c = omega (arith, few (goal.at.overflow_mul-size c).After-pair_size-size)

pub inside-requires-2 : goal.inside-requires-2
inside-requires-2 c = (omega arith, omega (arith, few (goal.at.inside-requires-2 c).After-pair_size-size))
