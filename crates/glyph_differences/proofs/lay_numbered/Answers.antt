use Rattle.listing.specs.Laid.{laid_short, laid_listed}
use native.Mathlib.Omega.{arith}
use Rattle.glyph_differences.proofs.lay_numbered.Goals as goal

pub returns-then-out-size : goal.returns-then-out-size
returns-then-out-size c =
    (laid_short c.list_numbered-size.ensures.0 c.if-out-size.true, c.list_numbered-size.ensures.1)

pub list_numbered-requires : goal.list_numbered-requires
list_numbered-requires c =
    (c.requires.0, c.requires.1, record { below = λ i. omega (arith, c.requires.2.below i); rows = omega (arith, c.requires.2.rows); linked = omega (arith, c.requires.2.linked) })

pub returns : goal.returns
returns c =
    (laid_listed c.list_numbered-size.ensures.0 c.if-out-size.false c.list_numbered.ensures.0, c.list_numbered.ensures.1)
