use Rattle.class_differences.proofs.Glyphs.{class_right, class_left, class_both}
use Rattle.class_differences.proofs.list_glyph.Goals as goal

pub returns-in_default : goal.returns-in_default
returns-in_default c =
    let x = class_right c.args.at.chained c.args.num.now c.args.left.now c.args.right.now c.args.at.glyph c.in_default.ensures c.list_right.ensures in
    (x.0, x.1, c.requires.5)

pub returns-in_default-cover_index : goal.returns-in_default-cover_index
returns-in_default-cover_index c =
    let x = class_left c.args.at.chained c.args.num.now c.args.left.now c.args.right.now c.args.at.glyph c.in-Some.ensures c.in_default-cover_index.ensures c.put_listed.ensures in
    (x.0, x.1, c.requires.5)

pub returns : goal.returns
returns c =
    (class_both c.args.at.chained c.args.num.now c.args.left.now c.args.right.now c.args.at.glyph c.in-Some.ensures c.in-Some-cover_index.ensures c.set_of.ensures.0 c.set_of-2.ensures.0 c.list_set_pair.ensures.0, c.list_set_pair.ensures.1, c.list_set_pair.ensures.2)
