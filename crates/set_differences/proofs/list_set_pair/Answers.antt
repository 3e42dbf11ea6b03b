use Rattle.set_differences.proofs.Pairs.{known_listed, remembered}
use mathlib.Core.Path.{refl, ap}
use Prim.Native.Nat.{◌+◌}
use Rattle.set_differences.proofs.list_set_pair.Goals as goal

pub returns-then-is_known : goal.returns-then-is_known
returns-then-is_known c =
    let k = known_listed c.args.sets.first c.requires.4 (rw c.if-is_known.true at c.is_known.ensures) (ap (λ x. c.args.sets.pos + x) c.cell.ensures.0) in
    (k.0, k.1, c.requires.4)

pub returns : goal.returns
returns c =
    (c.list_sets-end.ensures.0, c.list_sets-end.ensures.1, remembered c.args.sets.first c.list_sets-end.ensures refl c.remember.ensures)
