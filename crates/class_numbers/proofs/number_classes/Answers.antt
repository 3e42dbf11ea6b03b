use native.Mathlib.Omega.{arith}
use Rattle.class_stretches.specs.Tables.{table_at}
use Rattle.class_strays.proofs.Walking.{lowest_both, numbered_both}
use Rattle.class_numbers.proofs.number_classes.Goals as goal

pub mark_strays-requires : goal.mark_strays-requires
mark_strays-requires c =
    (c.requires.0, c.requires.1, omega (arith, c.requires.2, c.put_lowest.ensures.elsewhere.size, c.put_lowest-2.ensures.elsewhere.size), lowest_both (table_at c.args.left.now c.args.at) (table_at c.args.right.now c.args.to) c.put_lowest.ensures c.put_lowest-2.ensures)

pub returns : goal.returns
returns c =
    numbered_both (table_at c.args.left.now c.args.at) (table_at c.args.right.now c.args.to) c.put_lowest.ensures c.put_lowest-2.ensures c.mark_strays.ensures
