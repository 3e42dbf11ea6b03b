use Rattle.cover_contexts.proofs.Context.{plain_asks, plain_settles}
use mathlib.Core.Path.{refl}
use native.Mathlib.Omega.{arith}
use Rattle.cover_contexts.proofs.write_plain.Goals as goal

pub put_three-requires : goal.put_three-requires
put_three-requires c =
    omega (arith, (c.requires.0.parts.plain refl).records, c.write_records-p.ensures.same, c.requires.0.header)

pub write_row-requires : goal.write_row-requires
write_row-requires c =
    plain_asks c.requires.1 c.requires.0 c.write_records-p.ensures c.put_three.ensures.1

pub returns : goal.returns
returns c =
    plain_settles c.requires.1 c.requires.0 c.write_records-p.ensures c.put_three.ensures.1 c.write_row.ensures
