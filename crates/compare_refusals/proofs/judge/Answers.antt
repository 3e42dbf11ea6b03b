use Rattle.std.proofs.Common.{rules}
use Rattle.std.proofs.lemmas.Result.{err_from_is_err_and}
use Rattle.compare_refusals.proofs.Refusing.{refuse_kind, refuse_left, refuse_right}
use Rattle.compare_refusals.proofs.judge.Goals as goal

pub returns-then-not-compared_kind : goal.returns-then-not-compared_kind
returns-then-not-compared_kind c = search (rules, refuse_kind)

pub returns-in_err-judge_one : goal.returns-in_err-judge_one
returns-in_err-judge_one c =
    let p = err_from_is_err_and c.from_residual.result c.from_residual.ensures.1 in
    rw (p.1, p.2) (refuse_left _ _ _ (search rules) _ c.in_err-judge_one.ensures)

pub returns : goal.returns
returns c =
    refuse_right _ _ _ (search rules) c.in_ok-judge_one.ensures _ c.judge_one-2.ensures
