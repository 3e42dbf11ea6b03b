use Rattle.rule_says.proofs.Saying.{base_none, base_there}
use Rattle.rule_says.proofs.base_of.Goals as goal

pub returns-then-classes-eq0 : goal.returns-then-classes-eq0
returns-then-classes-eq0 c = base_none c.args.classes c.args.k c.if-classes-eq0.true

pub returns : goal.returns
returns c = base_there c.args.classes c.args.k c.if-classes-eq0.false c.requires
