use mathlib.Core.Path.{◌∙◌}
use Rattle.cell_maps.proofs.RunLaws.{entry_by_even, entry_by_cell}
use Rattle.fold.proofs.entry.Goals as goal

pub returns-then-m-eq0 : goal.returns-then-m-eq0
returns-then-m-eq0 c =
    (entry_by_even c.args.t.now c.args.m c.args.old c.if-m-eq0.true c.even_entry.ensures.0, c.even_entry.ensures.1)

pub returns : goal.returns
returns c =
    (c.held.ensures.0 ∙ entry_by_cell c.args.t.now c.args.m c.args.old c.if-m-eq0.false, c.held.ensures.1)
