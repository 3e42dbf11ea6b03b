use Rattle.context_classes.proofs.prepare.Goals as goal

pub returns : goal.returns
returns c = cc
