use native.Mathlib.Omega.{arith}
use Prim.Native.Nat.{◌/◌}
use lib.ListN.{length}
use Rattle.lookup_list.proofs.Readying.{list_short}
use Rattle.names.proofs.Naming.{zeros_part}
use Rattle.names.proofs.all_named.Goals as goal

pub slice_bounds-named_by-end : goal.slice_bounds-named_by-end
slice_bounds-named_by-end c =
    omega (arith, list_short c.args.list.now c.args.buffer.now c.requires)

pub named_by-requires : goal.named_by-requires
named_by-requires c =
    (c.requires, zeros_part (length c.args.list.now / 10) (omega (arith, list_short c.args.list.now c.args.buffer.now c.requires)))
