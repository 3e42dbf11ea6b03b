use mathlib.Core.Path.{sym, ◌∙◌}
use native.Mathlib.Omega.{arith}
use Rattle.cell_maps.proofs.RunLaws.{rank_past, rank_none, rank_has}
use Rattle.cell_maps.proofs.rank_entry.Goals as goal

pub returns-then-old-gt65535 : goal.returns-then-old-gt65535
returns-then-old-gt65535 c =
    (c.no_entry.ensures.0 ∙ rank_past c.args.t.now c.args.at c.args.old c.if-old-gt65535.true, c.no_entry.ensures.1)

pub returns-then-not-has_bit : goal.returns-then-not-has_bit
returns-then-not-has_bit c =
    let unmarked = sym c.has_bit.ensures ∙ c.if-not-has_bit.true in
    (c.no_entry-then-not-has_bit.ensures.0 ∙ rank_none c.args.t.now c.args.at c.args.old c.if-old-gt65535.false unmarked, c.no_entry-then-not-has_bit.ensures.1)

pub returns : goal.returns
returns c =
    let marked = sym c.has_bit.ensures ∙ c.if-not-has_bit.false in
    (rank_has c.args.t.now c.args.at c.args.old c.if-old-gt65535.false marked c.rank.ensures, omega arith)
