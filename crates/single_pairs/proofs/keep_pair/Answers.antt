use Rattle.single_pairs.proofs.Keeping.{kept_one, kept_none}
use Rattle.std.proofs.Common.{◌+◌, refl, arith}
use Rattle.single_pairs.proofs.keep_pair.Goals as goal

pub overflow_cast-note : goal.overflow_cast-note
overflow_cast-note c =
    omega (arith, c.type_inv.t (c.args.at + c.args.i))

pub returns-then-e-old : goal.returns-then-e-old
returns-then-e-old c =
    kept_one _ _ _ _ _ _ refl c.substitute-old.ensures c.entry-e.ensures.0 refl c.if-e-old.true

pub returns : goal.returns
returns c =
    kept_none _ _ _ _ _ _ refl c.substitute-old.ensures c.entry-e.ensures.0 refl c.if-e-old.false
