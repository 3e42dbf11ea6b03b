use lib.ListN.{drop, length-drop}
use lib.Seq.{take_all}
use Rattle.set_differences.proofs.Pairs.{numbers_below, rows_gathered, rows_listed}
use Prim.Native.Nat.{◌-◌}
use native.Mathlib.Omega.{arith}
use lib.ListN.{length}
use Rattle.set_differences.proofs.list_sets.Goals as goal

pub pair_rows-requires : goal.pair_rows-requires
pair_rows-requires c =
    let h = length c.args.heads.now in
    rows_gathered c.gather-m.ensures c.gather-n.ensures (numbers_below c.args.num.now c.args.left.now 0 c.args.sets.left h c.requires.3.below) (numbers_below c.args.num.now c.args.right.now 1 c.args.sets.right h c.requires.3.below) (omega (arith, c.requires.3.rows)) (omega (arith, c.requires.3.linked))

pub returns : goal.returns
returns c =
    rows_listed c.gather-m.ensures c.gather-n.ensures c.args.sets.first c.pair_rows.ensures (take_all (length c.pair_rows.new.links - 65536) (drop 65536 c.pair_rows.new.links) (omega (arith, length-drop 65536 c.pair_rows.new.links))) c.list_ranks.ensures
