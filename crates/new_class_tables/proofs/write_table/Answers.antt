use Rattle.new_class_tables.proofs.Placing.{placed_null, placed_short, placed_long, spot_asked, placed_again, placed_far, placed_new}
use Rattle.new_class_tables.proofs.write_table.Goals as goal

pub returns-then-table-eq0 : goal.returns-then-table-eq0
returns-then-table-eq0 c = placed_null c.requires.0 c.requires.1 c.if-table-eq0.true c.put.ensures

pub returns-then-area-q : goal.returns-then-area-q
returns-then-area-q c = placed_short c.requires.0 c.requires.1 c.if-table-eq0.false c.write_classes-q.ensures c.if-area-q.true

pub returns-then-turn-q : goal.returns-then-turn-q
returns-then-turn-q c = placed_long c.requires.0 c.requires.1 c.if-table-eq0.false c.write_classes-q.ensures c.if-area-q.false c.if-turn-q.true c.over.ensures

pub place_spot-end-requires : goal.place_spot-end-requires
place_spot-end-requires c = spot_asked c.requires.0 c.requires.1 c.if-table-eq0.false c.write_classes-q.ensures c.if-area-q.false c.if-turn-q.false

pub returns-then-end-turn : goal.returns-then-end-turn
returns-then-end-turn c = placed_again c.requires.0 c.requires.1 c.if-table-eq0.false c.write_classes-q.ensures c.if-area-q.false c.if-turn-q.false c.place_spot-end.ensures c.if-end-turn.true

pub returns-then-turn-gap-gt-HIGHEST : goal.returns-then-turn-gap-gt-HIGHEST
returns-then-turn-gap-gt-HIGHEST c = placed_far c.requires.0 c.requires.1 c.if-table-eq0.false c.write_classes-q.ensures c.if-area-q.false c.if-turn-q.false c.place_spot-end.ensures c.if-end-turn.false c.if-turn-gap-gt-HIGHEST.true c.over-then-turn-gap-gt-HIGHEST.ensures

pub returns : goal.returns
returns c = placed_new c.requires.0 c.requires.1 c.if-table-eq0.false c.write_classes-q.ensures c.if-area-q.false c.if-turn-q.false c.place_spot-end.ensures c.if-end-turn.false c.if-turn-gap-gt-HIGHEST.false
