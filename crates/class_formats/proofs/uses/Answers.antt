use mathlib.Core.Path.{ap}
use Prim.Native.Nat.{ℕ, ◌-◌, ◌*◌}
use native.Mathlib.Omega.{arith}
use Rattle.class_formats.proofs.Using.{mul_small, rows_all, rows_row, rows_inside, rows_found, rows_next, rows_end, unused}
use Rattle.class_formats.proofs.uses.Goals as goal

pub returns-then-place-eq0 : goal.returns-then-place-eq0
returns-then-place-eq0 c = unused _ _ _ _ c.if-place-eq0.true

pub word_inside-n-requires : goal.word_inside-n-requires
word_inside-n-requires c = omega (arith, c.requires.0.header)

pub word_inside-requires : goal.word_inside-requires
word_inside-requires c = omega (arith, c.requires.0.header)

pub overflow_mul-row : goal.overflow_mul-row
overflow_mul-row c = omega (arith, mul_small c.args.size c.word_inside.result c.requires.0.small, c.word_inside.ensures.1)

pub rows-init : goal.rows-init
rows-init c = rows_all c.word_inside-n.ensures.0 (ap (λ (x : ℕ). c.args.size * x) c.word_inside.ensures.0) c.requires.0

pub kept_row_uses-requires : goal.kept_row_uses-requires
kept_row_uses-requires c =
    (rows_inside c.rows.invariant c.rows-test.true c.requires.0.header, c.requires.1, c.requires.2, c.requires.3)

pub returns-then-kept_row_uses : goal.returns-then-kept_row_uses
returns-then-kept_row_uses c = rows_found c.rows.invariant c.rows-test.true c.kept_row_uses.ensures c.if-kept_row_uses.true

pub overflow_add-p : goal.overflow_add-p
overflow_add-p c = omega (arith, rows_row c.rows.invariant c.rows-test.true)

pub rows-preserved : goal.rows-preserved
rows-preserved c = rows_next c.rows.invariant c.rows-test.true c.kept_row_uses.ensures c.if-kept_row_uses.false

pub returns : goal.returns
returns c = rows_end c.rows.invariant c.rows-test.false
