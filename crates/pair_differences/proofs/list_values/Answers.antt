use Rattle.value_differences.proofs.Values.{nothing_listed}
use Rattle.pair_differences.proofs.list_values.Goals as goal

pub returns-then-alike : goal.returns-then-alike
returns-then-alike c =
    nothing_listed c.args.g c.args.second (c.alike.ensures c.if-alike.true)
