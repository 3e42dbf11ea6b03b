use Rattle.kept_rules.specs.Left.{maps_in}
use Rattle.class_spots.specs.Sets.{leaves_null, leaves_there}
use Rattle.class_spots.proofs.write_set.Goals as goal

pub returns-then-at-eq0 : goal.returns-then-at-eq0
returns-then-at-eq0 c =
    (leaves_null c.args.chained (maps_in c.args.t.now c.args.maps) c.args.src.now c.if-at-eq0.true, c.requires.4)

pub write_rules-requires : goal.write_rules-requires
write_rules-requires c =
    (c.requires.0.sound c.if-at-eq0.false, c.requires.1, c.requires.2, c.requires.3, c.requires.4)

pub returns : goal.returns
returns c =
    (leaves_there c.args.chained (maps_in c.args.t.now c.args.maps) c.args.src.now c.if-at-eq0.false c.write_rules.ensures.0, c.write_rules.ensures.1)
