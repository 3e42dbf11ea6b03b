use Rattle.halving.specs.Columns.{ends_rising}
use Rattle.class_stretches.proofs.Reading.{range_ended}
use Rattle.class_stretches.proofs.reach_range.Goals as goal

pub reach-requires : goal.reach-requires
reach-requires c =
    (ends_rising c.args.src.now c.args.at c.args.n c.requires.0.inside c.requires.0.rise, c.requires.1)

pub returns : goal.returns
returns c = range_ended c.requires.2 c.reach.ensures
