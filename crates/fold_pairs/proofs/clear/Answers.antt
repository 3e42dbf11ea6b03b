use Prim.Native.Nat.{◌+◌, ◌-◌}
use native.Mathlib.Omega.{arith}
use Rattle.cells.specs.Filled.{filled}
use Rattle.fold_pairs.proofs.Laws.{cleared}
use Rattle.fold_pairs.proofs.clear.Goals as goal

pub returns : goal.returns
returns c =
    let end = c.args.m.at + c.args.m.mask + 1 in
    cleared c.requires (filled c.args.t.now c.args.m.at (end - c.args.m.at) end (omega arith) (omega (arith, c.requires.0.within)) (c.fill.ensures.after (λ y e. e)))
