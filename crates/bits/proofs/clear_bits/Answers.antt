use Prim.Native.Nat.{◌+◌, ◌-◌}
use native.Mathlib.Omega.{arith}
use Rattle.cells.specs.Filled.{filled}
use Rattle.bits.proofs.Laws.{cleared}
use Rattle.bits.proofs.clear_bits.Goals as goal

pub returns : goal.returns
returns c = cleared (filled c.args.t.now c.args.at (c.args.at + c.args.n - c.args.at) (c.args.at + c.args.n) (omega arith) c.requires (c.fill.ensures.after (λ y e. e)))
