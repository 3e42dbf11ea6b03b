use mathlib.Core.Path.{sym, ap}
use Prim.Native.Nat.{ℕ, ◌/◌, ◌%◌, ◌^◌}
use lib.ListN.{get_or-eq_default}
use lib.Dec.{eqb}
use Rattle.bits.specs.Bits.{marked}
use Rattle.bits.specs.Reading.{blank_unmarked}
use Rattle.bits.proofs.has_bit.Goals as goal

pub returns-then-t-i : goal.returns-then-t-i
returns-then-t-i c =
    sym (blank_unmarked c.args.t.now c.args.at c.args.x (get_or-eq_default c.args.t.now 0 c.if-t-i.true))

pub returns : goal.returns
unfolding marked
returns c = ap (λ (n : ℕ). eqb (n / 2 ^ (c.args.x % 32) % 2) 1) c.cell.ensures.0
