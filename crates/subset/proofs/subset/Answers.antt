use Rattle.std.proofs.Common.{Ok, refl}
use Rattle.refusals.proofs.Tested.{cut_outcome}
use Rattle.subset.proofs.subset.Goals as goal

pub cut_own-requires : goal.cut_own-requires
cut_own-requires c = c.in_ok-judge.ensures.sound.sound

pub returns : goal.returns
returns c =
    cut_outcome c.in_ok-judge.ensures.sound c.args.out.now (Ok c.in_ok-cut_own.field-0) c.in_ok-cut_own.ensures refl
