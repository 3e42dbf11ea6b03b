use native.Mathlib.Omega.{arith}
use Rattle.member_steps.proofs.Sums.{sum_over, sum_under, limit_is}
use Rattle.member_steps.proofs.add_steps.Goals as goal

pub overflow_sub-a : goal.overflow_sub-a
overflow_sub-a c = omega (arith, c.requires, limit_is)

pub returns-then-a-b : goal.returns-then-a-b
returns-then-a-b c =
    sum_over c.args.a c.args.b c.requires c.if-a-b.true

pub returns : goal.returns
returns c =
    sum_under c.args.a c.args.b c.requires c.if-a-b.false
