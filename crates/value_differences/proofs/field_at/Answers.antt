use native.Mathlib.Omega.{arith}
use Rattle.value_differences.proofs.Fields.{field_positive, field_there, field_absent}
use Rattle.value_differences.proofs.field_at.Goals as goal

pub nonzero_div-f : goal.nonzero_div-f
nonzero_div-f c = omega (arith, field_positive c.args.k c.requires.1)

pub returns-then-f-k-ne1 : goal.returns-then-f-k-ne1
returns-then-f-k-ne1 c =
    (field_absent c.args.f c.args.k c.if-f-k-ne1.true _, omega arith)

pub nonzero_rem-f-2 : goal.nonzero_rem-f-2
nonzero_rem-f-2 c = omega (arith, field_positive c.args.k c.requires.1)

pub returns : goal.returns
returns c =
    (field_there c.args.f c.args.k c.requires.1 (omega arith) c.args.src.now c.args.at c.field_count.ensures.0 c.word_at.ensures.0, omega arith)
