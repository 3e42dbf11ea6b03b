use Rattle.covered_classes.proofs.Covering.{class_none, class_other, class_own}
use Prim.Native.Nat.{◌+◌}
use native.Mathlib.Omega.{arith}
use Rattle.covered_classes.proofs.class_at.Goals as goal

pub returns-then-n-k : goal.returns-then-n-k
returns-then-n-k c =
    class_none c.args.t.now c.args.list c.args.n c.args.k c.args.new c.if-n-k.true

pub overflow_cast-cell : goal.overflow_cast-cell
overflow_cast-cell c =
    omega (arith, c.type_inv.t (c.args.list + c.args.k))

pub returns-then-cell-new : goal.returns-then-cell-new
returns-then-cell-new c =
    class_other c.args.t.now c.args.list c.args.n c.args.k c.args.new c.if-n-k.false c.if-cell-new.true

pub returns : goal.returns
returns c =
    class_own c.args.t.now c.args.list c.args.n c.args.k c.args.new c.if-n-k.false c.if-cell-new.false
