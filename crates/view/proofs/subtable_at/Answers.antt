use Prim.Native.Nat.{◌+◌}
use native.Mathlib.Omega.{arith}
use Rattle.view.proofs.Past.{word_past}
use Rattle.view.proofs.subtable_at.Goals as goal

pub returns-then-src-at : goal.returns-then-src-at
returns-then-src-at c =
    let e = word_past c.args.src.now (c.args.at + c.args.i) (omega arith) in
    (omega (arith, e), omega arith)
