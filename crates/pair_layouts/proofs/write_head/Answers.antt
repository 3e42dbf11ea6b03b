use Rattle.pair_layouts.proofs.Laying.{head_written}
use Rattle.pair_layouts.proofs.write_head.Goals as goal

pub returns : goal.returns
returns c =
    head_written c.args.area.now c.args.f.n1 c.args.f.n2 c.args.rows c.args.columns c.args.ends.cover c.args.ends.first c.args.ends.second c.put_three-p.ensures c.put_three-q.ensures c.put_two.ensures
