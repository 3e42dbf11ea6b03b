use Rattle.holding.proofs.Holding.{held_glyph, held_class, held_cover}
use Rattle.holding.proofs.holds.Goals as goal

pub returns-then-sort-eq0 : goal.returns-then-sort-eq0
returns-then-sort-eq0 c =
    held_glyph c.args.src.now c.args.sort c.args.table c.args.number c.args.glyph c.if-sort-eq0.true

pub returns-then-sort-eq1 : goal.returns-then-sort-eq1
returns-then-sort-eq1 c =
    held_class c.args.src.now c.args.sort c.args.table c.args.number c.args.glyph c.if-sort-eq0.false c.if-sort-eq1.true c.class_of.ensures.0

pub returns : goal.returns
returns c =
    held_cover c.args.src.now c.args.sort c.args.table c.args.number c.args.glyph c.if-sort-eq0.false c.if-sort-eq1.false c.covers.ensures
