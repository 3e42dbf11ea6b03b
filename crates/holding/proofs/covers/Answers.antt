use mathlib.Core.Path.{◌∙◌}
use Rattle.holding.proofs.Holding.{covers_null, covers_there}
use Rattle.holding.proofs.covers.Goals as goal

pub returns-then-at-eq0 : goal.returns-then-at-eq0
returns-then-at-eq0 c = covers_null c.args.src.now c.args.at c.args.glyph c.if-at-eq0.true

pub returns : goal.returns
returns c =
    c.is_some.ensures ∙ covers_there c.args.src.now c.args.at c.args.glyph c.if-at-eq0.false c.index_of.ensures
