use mathlib.Core.Path.{refl}
use Rattle.pair_classes.proofs.Cutting.{second_asks, second_cells, ready, all_left}
use Rattle.pair_classes.proofs.cut_first.Goals as goal

pub side_classes-second-requires : goal.side_classes-second-requires
side_classes-second-requires c =
    second_asks c.requires.0 refl c.word_inside.ensures.0

pub returns-then-second-eq0 : goal.returns-then-second-eq0
returns-then-second-eq0 c =
    (second_cells c.requires.0 refl c.word_inside.ensures.0 c.side_classes-second.ensures c.if-second-eq0.true, refl)

pub lay_pairs-requires : goal.lay_pairs-requires
lay_pairs-requires c =
    (ready c.requires.0 refl c.word_inside.ensures.0 c.side_classes-second.ensures c.if-second-eq0.false, c.requires.1)

pub returns : goal.returns
returns c =
    all_left c.requires.0 refl c.word_inside.ensures.0 c.side_classes-second.ensures c.if-second-eq0.false c.args.marks.layout c.args.area.now c.lay_pairs.result c.args.out.now c.lay_pairs.new.out c.lay_pairs.ensures
