use Rattle.std.proofs.Common.{Ok, refl}
use Rattle.refusals.proofs.Tested.{cut_outcome}
use Rattle.subset.proofs.subset_in.Goals as goal

pub cut_lent-requires : goal.cut_lent-requires
cut_lent-requires c = c.in_ok-judge.ensures.sound.sound

pub returns : goal.returns
returns c =
    cut_outcome c.in_ok-judge.ensures.sound c.args.out.now (Ok c.in_ok-cut_lent.field-0) c.in_ok-cut_lent.ensures refl
