use native.Mathlib.Omega.{arith}
use Prim.Native.Nat.{◌/◌}
use mathlib.Core.Path.{refl}
use lib.ListN.{length}
use Rattle.lookup_list.proofs.Readying.{list_short}
use Rattle.replay_cost.proofs.Depths.{zero_level, zeros_long}
use Rattle.replay_cost.proofs.list_steps.Goals as goal

pub slice_bounds-here-end : goal.slice_bounds-here-end
slice_bounds-here-end c =
    omega (arith, list_short c.args.list.now c.args.buffer.now c.requires)

pub slice_bounds-there-end : goal.slice_bounds-there-end
slice_bounds-there-end c =
    omega (arith, list_short c.args.list.now c.args.buffer.now c.requires)

pub levels-requires : goal.levels-requires
levels-requires c =
    let short = list_short c.args.list.now c.args.buffer.now c.requires in
    (c.requires, zero_level c.args.list.now c.args.buffer.now refl (omega arith), zeros_long (length c.args.list.now / 10) (omega arith))
