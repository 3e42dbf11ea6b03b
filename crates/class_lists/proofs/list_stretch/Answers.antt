use Rattle.class_lists.proofs.Listing.{passes_zero, passes_other, passes_ready}
use Rattle.class_lists.proofs.list_stretch.Goals as goal

pub reach-requires : goal.reach-requires
reach-requires c = passes_ready c.requires

pub returns-then-found-eq0 : goal.returns-then-found-eq0
returns-then-found-eq0 c = passes_zero c.if-found-eq0.true c.reach.ensures

pub returns : goal.returns
returns c = passes_other c.if-found-eq0.false c.fill.ensures
