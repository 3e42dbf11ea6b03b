use native.Mathlib.Omega.{arith}
use Rattle.fold_pairs.proofs.Laws.{power_of}
use Rattle.fold_pairs.proofs.power.Goals as goal

pub returns : goal.returns
returns c =
    let p = c.next_power_of_two.ensures.power in
    power_of _ _ p.0 p.1 (omega arith) (omega arith) (omega arith)
