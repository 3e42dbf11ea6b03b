use Rattle.ranked_maps.proofs.Ranks.{zero_put, zero_left}
use Rattle.ranked_maps.proofs.put_zero.Goals as goal

pub returns-then-zero : goal.returns-then-zero
returns-then-zero c = rw c.if-zero.true (zero_put c.requires.1 c.put_bit.ensures)

pub returns-else-zero : goal.returns-else-zero
returns-else-zero c = rw c.if-zero.false (zero_left _ c.args.marks)
