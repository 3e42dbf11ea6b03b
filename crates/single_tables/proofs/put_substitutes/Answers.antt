use Rattle.single_tables.proofs.Laying.{listing_all, listing_turn, listing_end}
use Rattle.laws.specs.Written.{wrote_length}
use mathlib.Core.Path.{refl}
use Prim.Native.Nat.{◌+◌}
use native.Mathlib.Omega.{arith}
use Rattle.single_tables.proofs.put_substitutes.Goals as goal

pub loop-i-init : goal.loop-i-init
loop-i-init c = listing_all

pub overflow_cast-t : goal.overflow_cast-t
overflow_cast-t c =
    omega (arith, c.type_inv.t (c.args.at + c.loop-i.i))

pub loop-i-preserved : goal.loop-i-preserved
loop-i-preserved c =
    listing_turn c.loop-i.invariant c.loop-i-test.true refl c.put-p.ensures

pub shape_of-area : goal.shape_of-area
shape_of-area c = wrote_length (listing_end c.loop-i.invariant c.loop-i-test.false)

pub returns : goal.returns
returns c = listing_end c.loop-i.invariant c.loop-i-test.false
