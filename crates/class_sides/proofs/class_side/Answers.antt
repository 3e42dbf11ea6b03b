use Rattle.class_sides.proofs.Siding.{side_few, may_map, side_laid}
use mathlib.Core.Path.{refl}
use Rattle.class_sides.proofs.class_side.Goals as goal

pub returns-then-front-l : goal.returns-then-front-l
returns-then-front-l c = side_few c.requires c.list_front-l.ensures _ c.if-front-l.true refl

pub class_map-requires : goal.class_map-requires
class_map-requires c = may_map c.requires c.list_front-l.ensures c.if-front-l.false

pub returns : goal.returns
returns c = side_laid c.requires c.list_front-l.ensures c.if-front-l.false c.class_map.ensures
