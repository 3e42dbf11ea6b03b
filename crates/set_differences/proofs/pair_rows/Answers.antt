use lib.ListN.{drop, length-drop}
use lib.Seq.{take_all}
use Rattle.set_differences.proofs.Pairs.{rows_paired}
use Prim.Native.Nat.{◌-◌}
use native.Mathlib.Omega.{arith}
use lib.ListN.{length}
use Rattle.set_differences.proofs.pair_rows.Goals as goal

pub pair-requires-2 : goal.pair-requires-2
pair-requires-2 c =
    let e = take_all (length c.args.nums.now - 65536) (drop 65536 c.args.nums.now) (omega (arith, length-drop 65536 c.args.nums.now)) in
    (c.requires.rights, c.requires.lefts, omega arith, omega (arith, c.requires.linked, c.requires.lefts), rw e (record { below = λ k h. omega (arith, c.requires.right_below.below k h) }))

pub returns : goal.returns
returns c =
    rows_paired c.requires.lefts (take_all (length c.args.nums.now - 65536) (drop 65536 c.args.nums.now) (omega (arith, length-drop 65536 c.args.nums.now))) c.pair.ensures c.pair-2.ensures
