use Rattle.std.proofs.Common.{arith}
use Rattle.std.proofs.lemmas.Result.{err_from_is_err_and}
use Rattle.compare_refusals.proofs.Refusing.{call_passes}
use Rattle.compare.proofs.Answering.{answer_refused, answer_short, answer_listed}
use Rattle.compare.proofs.compare_in.Goals as goal

pub returns-in_err-judge : goal.returns-in_err-judge
returns-in_err-judge c =
    let p = err_from_is_err_and c.from_residual.result c.from_residual.ensures.1 in
    rw (p.1, p.2) (answer_refused _ _ _ _ (λ i. omega (arith, c.type_inv.left i)) (λ i. omega (arith, c.type_inv.right i)) _ c.in_err-judge.ensures)

pub lay-size-requires : goal.lay-size-requires
lay-size-requires c = call_passes _ _ _ c.in_ok-judge.ensures

pub returns-then-out-size : goal.returns-then-out-size
returns-then-out-size c =
    answer_short _ _ _ _ c.in_ok-judge.ensures c.lay-size.ensures c.out-1.given c.if-out-size.true

pub returns : goal.returns
returns c =
    answer_listed _ _ _ _ c.in_ok-judge.ensures c.lay-size.ensures c.out-1.given c.if-out-size.false
