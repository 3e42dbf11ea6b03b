use Rattle.single_pairs.proofs.Keeping.{agree_same, agree_next, agree_stop}
use Rattle.single_pairs.proofs.still_agree.Goals as goal

pub returns-then-next-k : goal.returns-then-next-k
returns-then-next-k c =
    agree_same _ _ _ c.requires.0 c.if-next-k.true

pub returns-then-same : goal.returns-then-same
returns-then-same c =
    agree_next _ _ _ c.requires.0 c.requires.1 c.requires.2 c.if-next-k.false c.if-same.true c.difference.ensures c.difference-then-same.ensures

pub returns-else-same : goal.returns-else-same
returns-else-same c =
    agree_stop _ _ _ c.requires.0 c.requires.1 c.requires.2 c.if-next-k.false c.if-same.false
