use Rattle.field_uses.proofs.Using.{bit_kept, bit_gone}
use Rattle.field_uses.proofs.bit_kept.Goals as goal

pub returns-then-uses : goal.returns-then-uses
returns-then-uses c = bit_kept c.args.k c.uses.ensures c.if-uses.true

pub returns : goal.returns
returns c = bit_gone c.args.k c.uses.ensures c.if-uses.false
