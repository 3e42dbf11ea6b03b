use Rattle.cell_maps.proofs.RunLaws.{even_by_run, even_by_rank}
use Rattle.cell_maps.proofs.even_entry.Goals as goal

pub returns-then-m-eq-RANKED : goal.returns-then-m-eq-RANKED
returns-then-m-eq-RANKED c =
    (even_by_rank c.args.t.now c.args.m c.args.old c.if-m-eq-RANKED.true c.rank_entry.ensures.0, c.rank_entry.ensures.1)

pub returns : goal.returns
returns c =
    (even_by_run c.args.t.now c.args.m c.args.old c.if-m-eq-RANKED.false c.last_run.ensures c.run_entry.ensures.0, c.run_entry.ensures.1)
