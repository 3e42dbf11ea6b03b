use Rattle.halving.specs.Columns.{map_rising}
use Rattle.range_meets.proofs.Entries.{map_reached}
use Rattle.range_meets.proofs.reach.Goals as goal

pub reach-requires : goal.reach-requires
reach-requires c = (map_rising c.args.glyphs.now c.requires.1, c.requires.0)

pub returns : goal.returns
returns c = map_reached c.reach.ensures
