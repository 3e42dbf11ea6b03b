use Rattle.covered_classes.proofs.Covering.{covering_ready, covering_done}
use Rattle.covered_classes.proofs.mark_covered.Goals as goal

pub mark_met-requires : goal.mark_met-requires
mark_met-requires c = covering_ready c.requires.0 c.requires.1 c.clear_bits.ensures

pub returns : goal.returns
returns c = covering_done c.requires.0 c.requires.1 c.clear_bits.ensures c.mark_met.ensures
