use Rattle.class_lists.proofs.met_zero.Goals as goal

pub returns : goal.returns
returns c =
    rw c.if-zero.false
