use Rattle.meaning.specs.Maps.{glyph_entries}
use Rattle.class_stretches.specs.Tables.{classes_at}
use Rattle.pair_classes.specs.Sides.{map_of}
use Rattle.pair_classes.proofs.Siding.{map_zero, to_map, sided_few, may_enter, sided}
use Rattle.pair_classes.proofs.side_classes.Goals as goal

pub side_map-c-requires : goal.side_map-c-requires
side_map-c-requires c = to_map c.requires c.list_classes-l.ensures

pub returns-then-map-eq0 : goal.returns-then-map-eq0
returns-then-map-eq0 c = sided_few (map_of c.args.second) c.list_classes-l.ensures c.side_map-c.ensures c.if-map-eq0.true

pub new_entries-len-requires : goal.new_entries-len-requires
new_entries-len-requires c = may_enter (map_of c.args.second) c.list_classes-l.ensures c.side_map-c.ensures c.if-map-eq0.false

pub returns : goal.returns
returns c = sided (map_of c.args.second) c.list_classes-l.ensures c.side_map-c.ensures c.if-map-eq0.false (map_zero c.args.second (glyph_entries c.args.form c.args.glyphs.now) (classes_at c.args.src.now c.args.at)) c.new_entries-len.ensures
