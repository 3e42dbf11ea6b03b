use Rattle.single_tables.proofs.Laying.{delta_stands}
use Rattle.single_tables.proofs.write_delta.Goals as goal

pub returns : goal.returns
returns c =
    delta_stands _ _ _ c.requires.1 c.difference.ensures c.put_three-p.ensures c.write_cover.ensures
