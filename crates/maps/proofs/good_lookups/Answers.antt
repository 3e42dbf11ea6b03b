use mathlib.Core.Path.{◌∙◌}
use Rattle.maps.proofs.Laws.{lookups_broken, lookups_whole}
use Rattle.maps.proofs.good_lookups.Goals as goal

pub returns-then-m-ne0 : goal.returns-then-m-ne0
returns-then-m-ne0 c = lookups_broken c.args.m.now c.if-m-ne0.true

pub returns : goal.returns
returns c = c.ascending.ensures ∙ lookups_whole c.args.m.now c.if-m-ne0.false
