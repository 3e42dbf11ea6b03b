use Prim.Native.Nat.{◌+◌, ◌/◌}
use native.Mathlib.Omega.{arith}
use Rattle.class_contexts.proofs.notes_at.Goals as goal

pub returns : goal.returns
returns c =
    record {
      behind = omega (arith, c.max.ensures, c.max-2.ensures);
      near = omega (arith, c.requires, c.cells.ensures.1, c.max.ensures, c.max-2.ensures);
      enough = λ l. absurd (omega (arith, c.if-all-ge-CELLS.false));
    }
