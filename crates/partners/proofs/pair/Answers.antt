use Rattle.partners.proofs.Chaining.{paired_first}
use native.Mathlib.Omega.{arith}
use Rattle.partners.proofs.pair.Goals as goal

pub link-requires : goal.link-requires
link-requires c =
    (c.requires.1, omega arith, record { below = λ k h. omega (arith, c.requires.4.below k h) }, c.clear.ensures)

pub take-requires : goal.take-requires
take-requires c =
    (omega (arith, c.requires), omega (arith, c.requires), record { below = λ k h. omega (arith, c.requires.4.below k h) }, c.link.ensures.0)

pub returns : goal.returns
returns c = paired_first (omega (arith, c.requires.2)) c.link.ensures.1 c.take.ensures
