use Rattle.class_ranks.proofs.mark_zero.Goals as goal

pub returns-then-zero : goal.returns-then-zero
returns-then-zero c = rw c.if-zero.true
