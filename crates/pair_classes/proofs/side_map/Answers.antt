use Rattle.pair_classes.proofs.side_map.Goals as goal

pub returns-then-second : goal.returns-then-second
returns-then-second c = rw c.if-second.true c.pinned_map.ensures

pub returns : goal.returns
returns c = rw c.if-second.false c.class_map.ensures
