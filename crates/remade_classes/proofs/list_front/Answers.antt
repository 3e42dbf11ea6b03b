use lib.Seq.{length-take-le}
use Rattle.remade_classes.proofs.Making.{listed_front}
use mathlib.Core.Path.{sym}
use Rattle.remade_classes.proofs.list_front.Goals as goal

pub slice_bounds-list_classes-end-2 : goal.slice_bounds-list_classes-end-2
slice_bounds-list_classes-end-2 c = sym (length-take-le _ _ c.requires.2)

pub returns : goal.returns
returns c = listed_front c.args.t.now c.requires.2 c.list_classes.ensures
