use Prim.Native.Nat.{◌+◌, ◌-◌}
use native.Mathlib.Omega.{arith}
use Rattle.cells.specs.Filled.{filled}
use Rattle.class_numbers.proofs.clear.Goals as goal

pub returns : goal.returns
returns c =
    let f = filled c.args.t.now c.args.base (c.args.base + 65536 - c.args.base) (c.args.base + 65536) (omega arith) c.requires (c.fill.ensures.after (λ y e. e)) in
    record {
      each = λ i l. f.blank (c.args.base + i) (omega arith) (omega arith);
      elsewhere = record { size = f.size; before = f.before; after = f.behind };
    }
