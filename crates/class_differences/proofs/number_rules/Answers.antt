use Rattle.class_differences.proofs.Whole.{sound_tables, told_classes}
use native.Mathlib.Omega.{arith}
use Rattle.class_differences.proofs.number_rules.Goals as goal

pub number_tables-requires : goal.number_tables-requires
number_tables-requires c =
    (sound_tables c.args.chained c.args.left.now c.requires.0, sound_tables c.args.chained c.args.right.now c.requires.1, c.requires.3)

pub returns : goal.returns
returns c =
    told_classes c.args.chained (λ i. omega (arith, c.type_inv.left i)) (λ i. omega (arith, c.type_inv.right i)) c.requires.0 c.requires.1
    c.number_tables.ensures.0 c.shape_of-shape.ensures c.slots_at-first.ensures c.number_all.ensures
