use Rattle.listing.specs.Laid.{laid_short, laid_listed}
use Rattle.compare_lists.proofs.lay_direct.Goals as goal

pub returns-then-out-size : goal.returns-then-out-size
returns-then-out-size c =
    (laid_short c.list_direct-size.ensures.0 c.if-out-size.true, c.list_direct-size.ensures.1)

pub returns : goal.returns
returns c =
    (laid_listed c.list_direct-size.ensures.0 c.if-out-size.false c.list_direct.ensures.0, c.list_direct.ensures.1)
