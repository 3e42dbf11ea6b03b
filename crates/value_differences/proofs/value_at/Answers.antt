use Rattle.value_differences.proofs.Values.{value_first, value_second}
use native.Mathlib.Omega.{arith}
use Rattle.value_differences.proofs.value_at.Goals as goal

pub returns-then-i-lt4 : goal.returns-then-i-lt4
returns-then-i-lt4 c =
    value_first c.args.src.now c.args.p c.args.i c.word_at-f.ensures.0 c.if-i-lt4.true c.field_bit.ensures.0 c.field_at.ensures.0

pub returns : goal.returns
returns c =
    value_second c.args.src.now c.args.p c.args.i c.word_at-f.ensures.0 (omega arith) (omega arith) c.field_bit-2.ensures.0 c.field_count.ensures.0 c.word_at.ensures.0 c.field_at-2.ensures.0
