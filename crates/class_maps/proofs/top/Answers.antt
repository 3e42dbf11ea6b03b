use Rattle.ranked_maps.specs.Present.{top_even, top_odd}
use Rattle.class_maps.proofs.top.Goals as goal

pub returns-then-m-eq0 : goal.returns-then-m-eq0
returns-then-m-eq0 c = top_even c.args.m c.if-m-eq0.true

pub returns : goal.returns
returns c = top_odd c.args.m c.if-m-eq0.false
